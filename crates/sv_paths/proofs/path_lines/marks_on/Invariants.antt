use Rattle.std.proofs.Common.{◌≡◌, ◌-◌, length, drop, map, reverse}
use Rattle.sv_paths.specs.declared.routes.StepRef.{StepRef}
use Rattle.sv_paths.specs.ListLines.{step_word}
use Rattle.sv_paths.specs.RouteViews.{step_ref_form}
use Rattle.sv_paths.specs.Written.{mark_word}
use Rattle.sv_paths.proofs.path_lines.marks_on.Given as goal

-- those of the conditions so far, from the last one back
abbrev pub invariant-loop-i : goal.invariant-loop-i
invariant-loop-i l =
    map mark_word l.marks.items
    ≡ reverse (map (λ (r : StepRef). step_word (step_ref_form r)) (drop (length l.refs - l.i) l.refs))
