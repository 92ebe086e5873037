use Rattle.std.proofs.Common.{◌≡◌, ℕ, ◌==◌, ◌&&◌, ◌||◌, length}
use Rattle.std.specs.List.{list_any}
use Rattle.sv_graph.specs.BitGraphs.{in_row, words}
use Rattle.sv_graph.specs.BitSets.{has_some}
use Rattle.sv_graph.proofs.bit_graphs.row_of.Given as goal

-- the signals so far, and those that are left
abbrev pub invariant-loop-signal : goal.invariant-loop-signal
invariant-loop-signal l = (length l.row.items ≡ words l.count)
    × ((s : ℕ) → (in_row l.row.items s
    || (has_some l.set s && list_any (λ k. k == s) l.signal-iterator)) ≡ has_some l.set s)
