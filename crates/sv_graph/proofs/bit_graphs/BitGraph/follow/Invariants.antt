use Rattle.std.specs.List.{list_any}
use Rattle.sv_flat.specs.Sets.{those}
use Rattle.sv_graph.specs.BitGraphs.{size, has_edge, IsOver}
use Rattle.sv_graph.proofs.BitRows.{LedBySoFar}
use Rattle.sv_graph.proofs.bit_graphs.BitGraph.follow.Given as goal

-- the signals so far are led on
abbrev pub invariant-loop-from : goal.invariant-loop-from
invariant-loop-from l =
    let n = size l.initial.self in
    IsOver n l.self
    × LedBySoFar (has_edge l.initial.self) (has_edge l.self)
    (λ a b. list_any (λ m. has_edge l.ways m b) (those n (has_edge l.initial.self a))) l.from
