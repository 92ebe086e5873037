use Rattle.sv_graph.specs.BitGraphs.{size, has_edge, IsOver, ClosesUpTo}
use Rattle.sv_graph.proofs.bit_graphs.BitGraph.lead_in_order.Given as goal

abbrev pub invariant-loop-from : goal.invariant-loop-from
invariant-loop-from l =
    let n = size l.initial.self in
    IsOver n l.self
    × (ClosesUpTo n (has_edge l.first) (has_edge l.initial.self) 0
    → ClosesUpTo n (has_edge l.first) (has_edge l.self) 0)
