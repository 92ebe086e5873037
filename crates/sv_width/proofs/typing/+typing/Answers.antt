use Rattle.std.proofs.Common.{◌+◌, List, drop, refl, sym, ap, ◌∙◌}
use Rattle.std.proofs.lemmas.List.{map_push, at_drop_all}
use Rattle.std.proofs.lemmas.Result.{err_from_is_err_and}
use Rattle.sv_system.proofs.Fronts.{left_more, before, before_push, before_end}
use Rattle.sv_flat.specs.Design as flat
use Rattle.sv_flat.specs.Design.{TypedTree, typed}
use Rattle.sv_flat.specs.Views.{typed_tree, typed_trees, parts_of as typed_row}
use Rattle.sv_flat.specs.Views.{row_parts as flat_parts}
use Rattle.sv_flat.specs.declared.expressions.FNode.TheBlock.{hidden-the_row-FExpr-0}
use Rattle.sv_flat.proofs.Rows.{row_parts-hidden as flat_row-hidden}
use Rattle.sv_width.specs.declared.measured.Measured.{Measured}
use Rattle.sv_width.specs.Measured.{own_form}
use Rattle.sv_width.specs.Pushed.{divisors_of, divisors_in, node_of, nodes_in}
use Rattle.sv_width.specs.Views.{measured_tree, measured_trees, parts_of}
use Rattle.sv_width.proofs.MRows.{row_at, parts_refused}
use Rattle.sv_width.proofs.Measures.{passes_on}
use Rattle.sv_width.proofs.typing.+typing.Goals as goal

pub node-returns-in_err-pushed_parts-in-Join-clause-broken :
    goal.node-returns-in_err-pushed_parts-in-Join-clause-broken
unfolding divisors_of divisors_in
node-returns-in_err-pushed_parts-in-Join-clause-broken t c =
    let p = err_from_is_err_and c.from_residual-in_err-pushed_parts-in-Join.result
    c.from_residual-in_err-pushed_parts-in-Join.ensures.1 in
    rw (p.1, p.2)
    (parts_refused c.args.expr.now _ c.args.to.width c.args.to.signed c.in-Join.parts
    c.deref-in-Join.result.now c.in_err-pushed_parts-in-Join.field-0.0 c.in-Join.is refl
    c.deref-in-Join.ensures.value c.in_err-pushed_parts-in-Join.ensures.broken)

pub node-returns-in_err-pushed_parts-in-Repeat-clause-broken :
    goal.node-returns-in_err-pushed_parts-in-Repeat-clause-broken
unfolding divisors_of divisors_in
node-returns-in_err-pushed_parts-in-Repeat-clause-broken t c =
    let p = err_from_is_err_and c.from_residual-in_err-pushed_parts-in-Repeat.result
    c.from_residual-in_err-pushed_parts-in-Repeat.ensures.1 in
    rw (p.1, p.2)
    (parts_refused c.args.expr.now _ c.args.to.width c.args.to.signed c.in-Repeat.parts
    c.deref-in-Repeat.result.now c.in_err-pushed_parts-in-Repeat.field-0.0 c.in-Repeat.is refl
    c.deref-in-Repeat.ensures.value c.in_err-pushed_parts-in-Repeat.ensures.broken)

pub node-returns-in_ok-pushed_parts-in-Join-clause-found :
    goal.node-returns-in_ok-pushed_parts-in-Join-clause-found
unfolding node_of nodes_in divisors_of divisors_in
node-returns-in_ok-pushed_parts-in-Join-clause-found t c =
    let parts = row_at c.in-Join.parts c.deref-in-Join.result.now
    c.deref-in-Join.ensures.value in (
      ap (λ (e : Measured). (divisors_of (measured_tree e) c.args.to.width c.args.to.signed).end)
          c.in-Join.is
          ∙ sym (ap (λ es. (divisors_in es).end) parts)
          ∙ c.in_ok-pushed_parts-in-Join.ensures.asked,
      ap flat.join (flat_row-hidden c.in_ok-pushed_parts-in-Join.field-0
          ∙ c.in_ok-pushed_parts-in-Join.ensures.found ∙ ap nodes_in parts)
          ∙ ap (λ (e : Measured). node_of (measured_tree e) c.args.to.width c.args.to.signed)
          (sym c.in-Join.is),
    )

pub node-returns-in_ok-pushed_parts-in-Repeat-clause-found :
    goal.node-returns-in_ok-pushed_parts-in-Repeat-clause-found
unfolding node_of nodes_in divisors_of divisors_in
node-returns-in_ok-pushed_parts-in-Repeat-clause-found t c =
    let parts = row_at c.in-Repeat.parts c.deref-in-Repeat.result.now
    c.deref-in-Repeat.ensures.value in (
      ap (λ (e : Measured). (divisors_of (measured_tree e) c.args.to.width c.args.to.signed).end)
          c.in-Repeat.is
          ∙ sym (ap (λ es. (divisors_in es).end) parts)
          ∙ c.in_ok-pushed_parts-in-Repeat.ensures.asked,
      ap (λ k. flat.replication k
          (flat_parts (hidden-the_row-FExpr-0 c.in_ok-pushed_parts-in-Repeat.field-0)))
          c.from.ensures ∙ ap (flat.replication c.in-Repeat.count)
          (flat_row-hidden c.in_ok-pushed_parts-in-Repeat.field-0
          ∙ c.in_ok-pushed_parts-in-Repeat.ensures.found ∙ ap nodes_in parts)
          ∙ ap (λ (e : Measured). node_of (measured_tree e) c.args.to.width c.args.to.signed)
          (sym c.in-Repeat.is),
    )

pub pushed_parts-loop-part-preserved : goal.pushed_parts-loop-part-preserved
unfolding node_of nodes_in divisors_of divisors_in
pushed_parts-loop-part-preserved t c = record {
  asks =
      sym (passes_on (divisors_of (measured_tree c.part-item.result)
      (own_form (measured_tree c.part-item.result)).width
      (own_form (measured_tree c.part-item.result)).signed) _
      (divisors_in (parts_of
      (measured_trees (drop (c.loop-part.part-index + 1) c.args.parts.now)))).end
      (sym
      (ap (λ w. (divisors_of (measured_tree c.part-item.result) w c.own_type.result.signed).end)
      c.own_type.ensures.width
      ∙ ap (λ x.
      (divisors_of (measured_tree c.part-item.result)
      (own_form (measured_tree c.part-item.result)).width x).end) c.own_type.ensures.signed)
      ∙ c.in_ok-pushed.ensures.found.0) refl)
      ∙ sym (ap (λ (es : List Measured). (divisors_in (parts_of (measured_trees es))).end)
      (left_more c.args.parts.now c.loop-part.part-index c.part-item.result
      c.loop-part-test.true c.part-item.is)) ∙ c.loop-part.invariant.asks;
  gives =
      ap (λ fs. before flat.more_parts (typed_trees fs)
      (nodes_in (parts_of (measured_trees (drop (c.loop-part.part-index + 1) c.args.parts.now)))))
      c.in_ok-push.ensures.items
      ∙ ap (λ ts. before flat.more_parts ts
      (nodes_in (parts_of (measured_trees
      (drop (c.loop-part.part-index + 1) c.args.parts.now)))))
      (map_push typed_tree c.loop-part.typed.items c.in_ok-pushed.field-0)
      ∙ before_push flat.more_parts (typed_trees c.loop-part.typed.items)
      (typed_tree c.in_ok-pushed.field-0)
      (nodes_in (parts_of (measured_trees
      (drop (c.loop-part.part-index + 1) c.args.parts.now))))
      ∙ ap (λ (x : TypedTree).
      before flat.more_parts (typed_trees c.loop-part.typed.items)
      (flat.more_parts x (nodes_in
      (parts_of (measured_trees (drop (c.loop-part.part-index + 1) c.args.parts.now))))))
      (c.in_ok-pushed.ensures.found.1
      ∙ ap (λ w. typed w c.own_type.result.signed
      (node_of (measured_tree c.part-item.result) w c.own_type.result.signed))
      c.own_type.ensures.width
      ∙ ap (λ x. typed (own_form (measured_tree c.part-item.result)).width x
      (node_of (measured_tree c.part-item.result)
      (own_form (measured_tree c.part-item.result)).width x)) c.own_type.ensures.signed)
      ∙ sym (ap (λ (es : List Measured).
      before flat.more_parts (typed_trees c.loop-part.typed.items)
      (nodes_in (parts_of (measured_trees es))))
      (left_more c.args.parts.now c.loop-part.part-index c.part-item.result
      c.loop-part-test.true c.part-item.is))
      ∙ c.loop-part.invariant.gives;
}

pub pushed_parts-returns-clause-found : goal.pushed_parts-returns-clause-found
unfolding node_of nodes_in
pushed_parts-returns-clause-found t c =
    sym (before_end flat.more_parts typed_row (λ t ts. refl)
    (typed_trees c.loop-part.typed.items))
    ∙ sym (at_drop_all (λ (es : List Measured).
    before flat.more_parts (typed_trees c.loop-part.typed.items)
    (nodes_in (parts_of (measured_trees es))))
    c.args.parts.now c.loop-part.part-index c.loop-part-test.false)
    ∙ c.loop-part.invariant.gives
