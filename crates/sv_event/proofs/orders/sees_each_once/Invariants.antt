use Rattle.std.proofs.Common.{◌≡◌, ℕ, ◌+◌, ◌<◌, ◌==◌, length, take}
use Rattle.std.specs.Prelude.{count_by}
use Rattle.sv_event.specs.Seen.{times_seen}
use Rattle.sv_event.proofs.orders.sees_each_once.Given as goal

abbrev pub invariant-loop-k : goal.invariant-loop-k
invariant-loop-k l =
    (length l.seen ≡ length l.fn.seen)
    × ((j : ℕ) → j < length l.fn.seen →
    count_by (λ m. m == l.first + j) (take l.k-index l.order) ≡ times_seen l.seen j)
