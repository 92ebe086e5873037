use Rattle.std.proofs.Common.{◌≡◌, ◌<◌, ◌==◌, ◌&&◌, ◌||◌, ℕ, sym, ap, subst, ◌∙◌, arith}
use Rattle.std.specs.List.{list_any, range_with_len}
use Rattle.sv_flat.specs.Sets.{those}
use Rattle.sv_graph.specs.BitGraphs.{in_row, size, has_edge, IsOver}
use Rattle.sv_graph.proofs.BitRows.{row_at, edge_inside, LedBySoFar, not_led, led_by_more}
use Rattle.sv_graph.proofs.Differing.{filter_same}
use Rattle.sv_graph.proofs.Ways.{follow_ends}
use Rattle.sv_graph.proofs.bit_graphs.BitGraph.follow.Goals as goal

pub loop-from-preserved : goal.loop-from-preserved
loop-from-preserved c =
    let self = c.args.self.now in
    let ways = c.args.ways.now in
    let now = c.loop-from.self in
    let next = c.add_row.new.self in
    let from = c.loop-from.from in
    let n = size self in
    let known : from < n =
    subst (λ k. from < k) (c.len-from-end.ensures ∙ self.rows.ok.0) c.loop-from-test.true in
    let inside : from < size now = subst (λ k. from < k) (sym c.loop-from.invariant.0.0) known in
    let is = c.deref.ensures.value ∙ row_at now from c.index.result.now inside c.index.ensures in
    let more = λ (a b : ℕ). list_any (λ m. has_edge ways m b) (those n (has_edge self a)) in
    let led_is = λ (b : ℕ).
    ap (λ xs. in_row xs b) c.deref-in-loop-from.ensures.value
    ∙ c.in_ok-led.ensures.bits b
    ∙ ap (λ xs. list_any (λ m. has_edge ways m b) (those (size ways) (in_row xs))) is
    ∙ ap (λ k. list_any (λ m. has_edge ways m b) (those k (has_edge now from))) c.requires.ways.0
    ∙ ap (list_any (λ m. has_edge ways m b))
    (filter_same (has_edge now from) (has_edge self from) (range_with_len 0 n) (λ k at.
    not_led (has_edge self) (has_edge now) more from c.loop-from.invariant.1 k)) in (
      subst (λ k. IsOver k next) c.loop-from.invariant.0.0 c.add_row.ensures.over,
      led_by_more (has_edge self) (has_edge now) (has_edge next) more from c.loop-from.invariant.1
          (λ a b. c.add_row.ensures.gains a b
          ∙ ap (λ t. has_edge now a b || ((from == a) && t)) (led_is b)),
    )

pub returns-clause-edges : goal.returns-clause-edges
returns-clause-edges c = λ edges closed a b below.
    let self = c.args.self.now in
    let ways = c.args.ways.now in
    let now = c.loop-from.self in
    let count : c.len-from-end.result ≡ size self = c.len-from-end.ensures ∙ self.rows.ok.0 in
    let most = c.loop-from.auto.from-end in
    let end : c.loop-from.from ≡ size self = omega (arith, c.loop-from-test.false, most, count) in
    follow_ends (size self) (has_edge self) edges (has_edge ways) closed (has_edge now)
    (edge_inside self)
    (subst (LedBySoFar (has_edge self) (has_edge now)
    (λ x y. list_any (λ m. has_edge ways m y) (those (size self) (has_edge self x)))) end
    c.loop-from.invariant.1)
    a b below
