use Rattle.std.proofs.Common.{◌≡◌, take, map}
use Rattle.sv_paths.specs.ListLines.{step_word}
use Rattle.sv_obl.specs.Views.{step_form}
use Rattle.sv_paths.specs.Written.{mark_word}
use Rattle.sv_paths.proofs.list_lines.marks_of.Given as goal

-- those of the conditions so far
abbrev pub invariant-loop-step : goal.invariant-loop-step
invariant-loop-step l =
    map mark_word l.marks.items ≡ map step_word (map step_form (take l.step-index l.steps))
