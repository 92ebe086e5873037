use Rattle.sv_graph.specs.BitGraphs.{in_row, size, has_edge, IsOver}
use Rattle.sv_graph.proofs.BitRows.{LedSoFar}
use Rattle.sv_graph.proofs.bit_graphs.BitGraph.lead_all_on.Given as goal

abbrev pub invariant-loop-from : goal.invariant-loop-from
invariant-loop-from l = IsOver (size l.initial.self) l.self
    × LedSoFar (has_edge l.initial.self) (has_edge l.self) l.middle.0 (in_row l.targets) l.from
