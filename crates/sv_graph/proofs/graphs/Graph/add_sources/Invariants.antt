use Rattle.std.proofs.Common.{◌≡◌, ℕ, ◌<◌, [], ◌∷◌, ◌++◌, cond, take}
use Rattle.std.specs.Prelude.{IsTrue}
use Rattle.sv_flat.specs.Sets.{holds}
use Rattle.sv_graph.specs.Graphs.{size, row, has_edge}
use Rattle.sv_graph.specs.Numbers.{numbers}
use Rattle.sv_graph.proofs.graphs.Graph.add_sources.Given as goal

abbrev pub invariant-loop-from : goal.invariant-loop-from
invariant-loop-from l = (size l.self ≡ size l.initial.self)
    × (((a b : ℕ) → IsTrue (has_edge l.initial.self a b) → b < l.to.0)
    → (a : ℕ) → row l.self a ≡ row l.initial.self a
    ++ cond (holds (numbers (take l.from-index l.sources)) a) (l.to.0 ∷ []) [])
