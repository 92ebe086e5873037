use Rattle.std.proofs.Common.{◌≡◌, ◌*◌}
use Rattle.sv_flat.specs.Sets.{those}
use Rattle.sv_graph.specs.BitGraphs.{in_row}
use Rattle.sv_graph.specs.Numbers.{numbers}
use Rattle.sv_graph.proofs.bit_graphs.listed.Given as goal

-- the signals in the words so far
abbrev pub invariant-loop-place : goal.invariant-loop-place
invariant-loop-place l = numbers l.signals.items ≡ those (l.place * 64) (in_row l.row)
