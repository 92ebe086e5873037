use Rattle.std.proofs.Common.{rules, ◌≡◌, List, [], ◌∷◌, length, refl, sym, ap, ap₂, ◌∙◌, ◌⊎◌, ⊎_elim}
use Rattle.std.proofs.Common.{arith}
use Rattle.std.specs.Slice.Iter.{iter_rest}
use Rattle.std.specs.Iterator.Adapters.{zip_first, zip_second}
use Rattle.sv_flat.specs.declared.expressions.FExpr.{FExpr}
use Rattle.sv_flat.specs.Design.{join, replication}
use Rattle.sv_flat.specs.Views.{node_tree, typed_trees}
use Rattle.sv_flat.proofs.Rows.{same_parts}
use Rattle.sv_blast.proofs.sameness.+same_expressions.Goals as goal

none_left : (xs ys : List FExpr) → length xs ≡ 0 → length ys ≡ 0 → typed_trees xs ≡ typed_trees ys
none_left [] [] e f = refl
none_left [] (y ∷ ys) e f = absurd (cc)
none_left (x ∷ xs) ys e f = absurd (cc)

-- where as much is left of both, both end at once
ends : {S T : Type 0} {P : S → Type 0} {Q : T → Type 0} (xs ys : List FExpr) →
    length xs ≡ length ys →
    ((x : S) × ((length xs ≡ 0) × P x)) ⊎ ((x : T) × ((length ys ≡ 0) × Q x)) →
    typed_trees xs ≡ typed_trees ys
ends xs ys same ended = ⊎_elim
    (λ p. none_left xs ys (p.1).0 (sym same ∙ (p.1).0))
    (λ p. none_left xs ys (same ∙ (p.1).0) (p.1).0) ended

pub are_same-loop-one-init : goal.are_same-loop-one-init
are_same-loop-one-init t c =
    let ones : iter_rest (zip_first c.into_iter-one-iterator.result) ≡ c.args.ones.now =
    search rules in
    let others : iter_rest (zip_second c.into_iter-one-iterator.result) ≡ c.args.others.now =
    search rules in (
      λ same. ap typed_trees (sym ones) ∙ same ∙ ap typed_trees others,
      ap length ones ∙ c.if-ones-others.false ∙ sym (ap length others),
    )

pub are_same-loop-one-preserved : goal.are_same-loop-one-preserved
are_same-loop-one-preserved t c =
    let steps = c.in-Some.ensures.steps in
    let first = c.if-not-is_same.ensures refl in
    let lengths = sym (ap length steps.0) ∙ c.loop-one.invariant.1 ∙ ap length steps.1 in (
      λ rest. c.loop-one.invariant.0
          (ap typed_trees steps.0 ∙ ap₂ ◌∷◌ first rest ∙ sym (ap typed_trees steps.1)),
      omega (arith, lengths),
    )

pub are_same-returns : goal.are_same-returns
are_same-returns t c =
    λ yes. c.loop-one.invariant.0
    (ends _ _ c.loop-one.invariant.1 c.in-None.ensures.steps)

pub is_same_node-returns-in-Join-Join : goal.is_same_node-returns-in-Join-Join
is_same_node-returns-in-Join-Join t c =
    λ yes.
    let parts = ap typed_trees (sym c.deref-in-Join-Join.ensures.value) ∙ c.are_same.ensures yes
    ∙ ap typed_trees c.deref-in-Join-Join-2.ensures.value in
    ap node_tree c.in-Join-Join.is-0
    ∙ ap join (same_parts c.in-Join-Join.parts c.in-Join-Join.its parts)
    ∙ ap node_tree (sym c.in-Join-Join.is-1)

pub is_same_node-returns-then-count-times : goal.is_same_node-returns-then-count-times
is_same_node-returns-then-count-times t c =
    let count : c.in-Repeat-Repeat.count ≡ c.in-Repeat-Repeat.times = search rules in
    λ yes.
    let parts = ap typed_trees (sym c.deref-then-count-times.ensures.value)
    ∙ c.are_same-then-count-times.ensures yes
    ∙ ap typed_trees c.deref-then-count-times-2.ensures.value in
    ap node_tree c.in-Repeat-Repeat.is-0
    ∙ ap₂ replication count (same_parts c.in-Repeat-Repeat.parts c.in-Repeat-Repeat.its parts)
    ∙ ap node_tree (sym c.in-Repeat-Repeat.is-1)
