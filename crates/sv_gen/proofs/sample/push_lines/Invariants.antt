use Rattle.std.proofs.Common.{◌≡◌, ◌++◌}
use Rattle.sv_gen.specs.Sample.{line_of, lines_below}
use Rattle.sv_gen.proofs.sample.push_lines.Given as goal

abbrev pub invariant-loop-i : goal.invariant-loop-i
invariant-loop-i l = l.text.items ≡ l.fn.text.items ++ lines_below (line_of l.line) l.i
