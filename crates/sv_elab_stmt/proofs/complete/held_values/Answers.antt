use Rattle.std.proofs.Common.{◌≡◌, ◌+◌, ◌≤◌, Bool, true, false, List, get_or, drop, refl, sym, ap}
use Rattle.std.proofs.Common.{subst, ◌∙◌, arith}
use Rattle.std.specs.Prelude.{◌||◌, ◌==◌}
use Rattle.sv_ast.specs.Values.{nowhere, value}
use Rattle.sv_num.specs.Parts.{extended}
use Rattle.sv_elab_stmt.specs.declared.cases.CaseItem.{CaseItem}
use Rattle.sv_elab_stmt.specs.Cases.{item_tree, item_trees, AreItems, ArePassed, greatest}
use Rattle.sv_elab_stmt.specs.Cases.{values_of}
use Rattle.sv_elab_stmt.specs.Cases.{is_held}
use Rattle.sv_elab_stmt.proofs.CompleteFacts.{either_false}
use Rattle.sv_elab_stmt.proofs.WalkFacts.{left_more, left_none, handed_on}
use Rattle.sv_elab_stmt.proofs.complete.held_values.Goals as goal

or_assoc : (a b c : Bool) → ((a || b) || c) ≡ (a || (b || c))
or_assoc true b c = refl
or_assoc false b c = refl

pub returns-in_err-mark_item-clause-memory : goal.returns-in_err-mark_item-clause-memory
returns-in_err-mark_item-clause-memory c =
    let n = c.args.to.width in
    let s = c.args.to.signed in
    let split = left_more c.args.items.now c.loop-item.item-index c.item-item.result
    c.loop-item-test.true c.item-item.is in
    handed_on c.from_residual-in_err-mark_item.result _ _ c.from_residual-in_err-mark_item.ensures.1
    (λ names items passed.
    let h = c.loop-item.invariant.held names items passed in
    let each = subst (AreItems names) split h.0 in
    let all = subst (λ (xs : List CaseItem). ArePassed names n s (item_trees xs)) split h.1 in
    c.in_err-mark_item.ensures.memory names each.0 all.0)

pub loop-item-preserved : goal.loop-item-preserved
loop-item-preserved c =
    let own = c.args.own in
    let n = c.args.to.width in
    let s = c.args.to.signed in
    let item = c.item-item.result in
    let rest = drop (c.loop-item.item-index + 1) c.args.items.now in
    let old = c.loop-item.held.items in
    let split = left_more c.args.items.now c.loop-item.item-index item c.loop-item-test.true
    c.item-item.is in
    let wide = subst (λ (xs : List CaseItem). greatest xs ≤ n) split c.loop-item.invariant.wide in
    record {
      size = c.in_ok-mark_item.ensures.size ∙ c.loop-item.invariant.size;
      wide = omega (arith, wide);
      held = λ names items passed.
          let h = c.loop-item.invariant.held names items passed in
          let each = subst (AreItems names) split h.0 in
          let all = subst (λ (xs : List CaseItem).
          ArePassed names n s (item_trees xs)) split h.1 in (
            each.1,
            all.1,
            λ v low. ap (λ b. b || is_held own n s (values_of names n s (item_trees rest)) v)
                (c.in_ok-mark_item.ensures.held names each.0 all.0 v low)
                ∙ or_assoc (get_or old v false)
                (value names.scope nowhere (item_tree item) n s == extended s own n v)
                (is_held own n s (values_of names n s (item_trees rest)) v)
                ∙ ap (λ xs. get_or old v false
                || is_held own n s (values_of names n s (item_trees xs)) v) (sym split)
                ∙ h.2 v low,
          );
    }

pub returns-clause-found : goal.returns-clause-found
returns-clause-found c = λ names items passed.
    let own = c.args.own in
    let n = c.args.to.width in
    let s = c.args.to.signed in
    let held = c.loop-item.held.items in
    let end = left_none c.args.items.now c.loop-item.item-index c.loop-item-test.false in (
      c.loop-item.invariant.size,
      λ v low. sym (either_false (get_or held v false))
          ∙ ap (λ xs. get_or held v false
          || is_held own n s (values_of names n s (item_trees xs)) v) (sym end)
          ∙ (c.loop-item.invariant.held names items passed).2 v low,
    )
