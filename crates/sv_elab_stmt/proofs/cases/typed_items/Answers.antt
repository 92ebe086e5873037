use Rattle.std.proofs.Common.{◌+◌, ◌≤◌, List, ◌∷◌, ◌++◌, drop, sym, ap, subst, ◌∙◌, arith}
use Rattle.std.specs.List.{list_all}
use Rattle.std.proofs.lemmas.Bool.{and_parts}
use Rattle.sv_ast.specs.Shape.{is_shaped_expression}
use Rattle.sv_flat.specs.Views.{typed_tree, typed_trees}
use Rattle.sv_elab_rules.specs.Statements.{items_walk}
use Rattle.sv_width.specs.Scopes.{names_of}
use Rattle.sv_elab_stmt.specs.declared.cases.CaseItem.{CaseItem}
use Rattle.sv_elab_stmt.specs.Cases.{item_tree, item_trees, AreItems, greatest}
use Rattle.sv_elab_stmt.proofs.WalkFacts.{left_more, left_none, forms_push, mapped, mapped_push}
use Rattle.sv_elab_stmt.proofs.WalkFacts.{mapped_none, rest_broken, items_none, items_more}
use Rattle.sv_elab_stmt.proofs.WalkFacts.{items_broken, handed_on}
use Rattle.sv_elab_stmt.proofs.cases.typed_items.Goals as goal

pub typed_item-requires : goal.typed_item-requires
typed_item-requires c =
    let names = names_of c.args.scope.now in
    let i = c.loop-item.item-index in
    let item = c.item-item.result in
    let rest = drop (i + 1) c.args.items.now in
    let split = left_more c.args.items.now i item c.loop-item-test.true c.item-item.is in
    let each = subst (AreItems names) split c.loop-item.invariant.each in
    let wide = subst (λ (xs : List CaseItem).
    greatest xs ≤ c.args.to.width) split c.loop-item.invariant.wide in
    record {
      shaped =
          (and_parts (is_shaped_expression (item_tree item))
          (list_all is_shaped_expression (item_trees rest))
          (ap (λ xs. list_all is_shaped_expression (item_trees xs)) (sym split)
          ∙ c.loop-item.invariant.shaped)).0;
      is = each.0;
      wide = omega (arith, wide);
    }

pub returns-in_err-typed_item-clause-broken : goal.returns-in_err-typed_item-clause-broken
returns-in_err-typed_item-clause-broken c =
    let names = names_of c.args.scope.now in
    let n = c.args.to.width in
    let s = c.args.to.signed in
    let i = c.loop-item.item-index in
    let item = c.item-item.result in
    handed_on c.from_residual-in_err-typed_item.result _ _
    c.from_residual-in_err-typed_item.ensures.1
    (rest_broken _ (λ xs. (items_walk names n s (item_trees xs)).end)
    (λ fs. typed_trees c.loop-item.typed.items ++ fs) _ _ _ c.loop-item.invariant.walk
    (left_more c.args.items.now i item c.loop-item-test.true c.item-item.is)
    (items_broken names n s (item_tree item) (item_trees (drop (i + 1) c.args.items.now)) _
    c.in_err-typed_item.ensures.broken))

pub loop-item-preserved : goal.loop-item-preserved
loop-item-preserved c =
    let names = names_of c.args.scope.now in
    let n = c.args.to.width in
    let s = c.args.to.signed in
    let item = c.item-item.result in
    let rest = drop (c.loop-item.item-index + 1) c.args.items.now in
    let old = c.loop-item.typed.items in
    let new = c.in_ok-typed_item.field-0 in
    let found = c.in_ok-typed_item.ensures.found in
    let split = left_more c.args.items.now c.loop-item.item-index item c.loop-item-test.true
    c.item-item.is in
    let wide = subst (λ (xs : List CaseItem). greatest xs ≤ n) split c.loop-item.invariant.wide in
    record {
      walk = ap (λ ts. mapped (λ fs. ts ++ fs) (items_walk names n s (item_trees rest)).end)
          (ap typed_trees c.in_ok-push.ensures.items ∙ forms_push typed_tree old new)
          ∙ mapped_push (typed_trees old) (typed_tree new)
          (items_walk names n s (item_trees rest)).end
          ∙ ap (λ t. mapped (λ fs.
          typed_trees old ++ fs)
          (mapped (λ fs. t ∷ fs) (items_walk names n s (item_trees rest)).end)) found.1
          ∙ ap (λ r. mapped (λ fs. typed_trees old ++ fs) r)
          (sym (items_more names n s (item_tree item) (item_trees rest) found.0.0 found.0.1)
          ∙ ap (λ xs. (items_walk names n s (item_trees xs)).end) (sym split))
          ∙ c.loop-item.invariant.walk;
      each = (subst (AreItems names) split c.loop-item.invariant.each).1;
      wide = omega (arith, wide);
      shaped =
          (and_parts (is_shaped_expression (item_tree item))
          (list_all is_shaped_expression (item_trees rest))
          (ap (λ xs. list_all is_shaped_expression (item_trees xs)) (sym split)
          ∙ c.loop-item.invariant.shaped)).1;
    }

pub returns-clause-found : goal.returns-clause-found
returns-clause-found c =
    let names = names_of c.args.scope.now in
    let n = c.args.to.width in
    let s = c.args.to.signed in
    let typed = typed_trees c.loop-item.typed.items in
    sym c.loop-item.invariant.walk
    ∙ ap (λ xs. mapped (λ fs. typed ++ fs) (items_walk names n s (item_trees xs)).end)
    (left_none c.args.items.now c.loop-item.item-index c.loop-item-test.false)
    ∙ ap (λ r. mapped (λ fs. typed ++ fs) r) (items_none names n s)
    ∙ mapped_none typed
