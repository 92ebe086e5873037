use Rattle.std.proofs.Common.{◌≡◌, ◌-◌, ◌≤◌, length}
use Rattle.sv_flat.specs.Schedules.{shuffled, round}
use Rattle.sv_event.proofs.draws.draw_round.Given as goal

abbrev pub invariant-loop-left : goal.invariant-loop-left
invariant-loop-left l =
    (length l.order ≡ length l.fn.order) × (l.left ≤ length l.fn.order)
    × (shuffled (l.left - 1) (record { order = l.order; state = l.state }) ≡
    round (length l.fn.order) l.start)

abbrev pub decreases-loop-left : goal.decreases-loop-left
decreases-loop-left l = l.left
