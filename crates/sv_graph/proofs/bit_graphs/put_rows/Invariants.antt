use Rattle.std.proofs.Common.{◌≡◌, ℕ, ◌||◌, length, drop}
use Rattle.std.specs.List.{list_any}
use Rattle.sv_graph.specs.BitGraphs.{in_row, has_edge}
use Rattle.sv_graph.specs.Numbers.{numbers}
use Rattle.sv_graph.proofs.bit_graphs.put_rows.Given as goal

-- the signals so far, and those that are left
abbrev pub invariant-loop-signal : goal.invariant-loop-signal
invariant-loop-signal l = (length l.row ≡ length l.fn.row)
    × ((s : ℕ) → (in_row l.row s
    || list_any (λ m. has_edge l.graph m s) (numbers (drop l.signal-index l.signals)))
    ≡ (in_row l.fn.row s || list_any (λ m. has_edge l.graph m s) (numbers l.signals)))
