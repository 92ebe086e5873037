use Rattle.std.proofs.Common.{◌≡◌, ℕ, ◌+◌, ◌-◌, ◌<◌, ◌==◌, List, get_or, length, subst}
use Rattle.std.specs.Prelude.{count_by}
use Rattle.std.proofs.lemmas.List.{take_all}
use Rattle.sv_event.specs.Seen.{times_seen}
use Rattle.sv_event.proofs.SeenFacts.{seen_again, all_seen}
use Rattle.sv_event.proofs.orders.sees_each_once.Goals as goal

pub returns-then-not-is_new : goal.returns-then-not-is_new
returns-then-not-is_new c =
    let again = c.is_new.ensures.again c.if-not-is_new.true in
    seen_again c.args.order.now c.args.first c.loop-k.k-index (length c.args.seen.now)
    c.loop-k.seen c.loop-k-test.true again.0
    (subst (λ n. get_or c.args.order.now c.loop-k.k-index 0 - c.args.first < n)
    c.loop-k.invariant.0 again.1) again.2 c.loop-k.invariant.1

pub returns : goal.returns
returns c =
    let n = length c.args.seen.now in
    let order = c.args.order.now in
    all_seen order c.args.first n c.loop-k.seen c.are_all_seen.result c.loop-k.invariant.0
    (subst (λ (xs : List ℕ). (j : ℕ) → j < n →
    count_by (λ m. m == c.args.first + j) xs ≡ times_seen c.loop-k.seen j)
    (take_all c.loop-k.k-index order c.loop-k-test.false) c.loop-k.invariant.1)
    c.are_all_seen.ensures
