use Rattle.std.proofs.Common.{◌≡◌, ℕ}
use Rattle.std.specs.Prelude.{filter}
use Rattle.std.specs.List.{range_with_len}
use Rattle.sv_graph.specs.Graphs.{size, row, has_edge}
use Rattle.sv_graph.proofs.graphs.Graph.turned.Given as goal

abbrev pub invariant-loop-from : goal.invariant-loop-from
invariant-loop-from l = (size l.turned ≡ size l.self)
    × ((b : ℕ) → row l.turned b ≡ filter (λ a. has_edge l.self a b) (range_with_len 0 l.from))
