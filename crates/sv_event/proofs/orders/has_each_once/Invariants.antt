use Rattle.std.proofs.Common.{ℕ, ◌-◌, ◌<◌, ◌≤◌}
use Rattle.std.specs.Prelude.{IsTrue}
use Rattle.sv_event.specs.Seen.{stands_once}
use Rattle.sv_event.proofs.orders.has_each_once.Given as goal

abbrev pub invariant-loop-first : goal.invariant-loop-first
invariant-loop-first l =
    (l.first ≤ l.count) × ((k : ℕ) → k < l.first → IsTrue (stands_once l.order k))

abbrev pub decreases-loop-first : goal.decreases-loop-first
decreases-loop-first l = l.count - l.first
