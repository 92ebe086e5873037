use Rattle.std.proofs.Common.{◌≡◌, ◌++◌, take, map}
use Rattle.sv_paths.specs.ListLines.{blanked}
use Rattle.sv_paths.specs.Written.{mark_word}
use Rattle.sv_paths.proofs.list_lines.push_marks.Given as goal

abbrev pub invariant-marks : goal.invariant-marks
invariant-marks l =
    l.line.items ≡ l.fn.line.items ++ blanked (map mark_word (take l.mark-index l.marks))
