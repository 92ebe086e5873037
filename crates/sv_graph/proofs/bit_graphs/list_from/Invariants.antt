use Rattle.std.proofs.Common.{◌≡◌}
use Rattle.sv_flat.specs.Sets.{those}
use Rattle.sv_graph.specs.BitGraphs.{in_row}
use Rattle.sv_graph.specs.Numbers.{numbers}
use Rattle.sv_graph.proofs.bit_graphs.list_from.Given as goal

abbrev pub invariant-loop-s : goal.invariant-loop-s
invariant-loop-s l = numbers l.signals.items ≡ those l.s (in_row l.row)
