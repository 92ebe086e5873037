use Rattle.std.proofs.Common.{ℕ, Bool}
use Rattle.sv_graph.specs.BitGraphs.{size, has_edge, IsOver, ClosesUpTo}
use Rattle.sv_graph.proofs.bit_graphs.BitGraph.join_all.Given as goal

-- the ways over the signals so far have edges
abbrev pub invariant-loop-middle : goal.invariant-loop-middle
invariant-loop-middle l =
    let n = size l.initial.self in
    IsOver n l.self
    × ((first : ℕ → ℕ → Bool) → ClosesUpTo n first (has_edge l.initial.self) 0
    → ClosesUpTo n first (has_edge l.self) l.middle)
