use Rattle.std.proofs.Common.{◌≡◌, ℕ, ◌<◌, get_or}
use Rattle.std.specs.Prelude.{bit_or}
use Rattle.sv_graph.proofs.bit_graphs.has_row.Given as goal

-- the words so far have no more bits
abbrev pub invariant-loop-place : goal.invariant-loop-place
invariant-loop-place l =
    (k : ℕ) → k < l.place → get_or l.row k 0 ≡ bit_or (get_or l.row k 0) (get_or l.more k 0)
