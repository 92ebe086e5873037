use Rattle.std.proofs.Common.{ℕ, ◌<◌}
use Rattle.std.specs.Prelude.{IsTrue}
use Rattle.sv_graph.specs.BitGraphs.{has_edge}
use Rattle.sv_graph.proofs.bit_graphs.BitGraph.are_led.Given as goal

-- the signals so far lead to all
abbrev pub invariant-loop-from : goal.invariant-loop-from
invariant-loop-from l =
    (a m b : ℕ) → a < l.from → IsTrue (has_edge l.first a m) → IsTrue (has_edge l.self m b)
    → IsTrue (has_edge l.self a b)
