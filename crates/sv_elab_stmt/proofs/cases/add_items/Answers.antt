use Rattle.std.proofs.Common.{◌+◌, ◌++◌, drop, sym, ap, subst, ◌∙◌}
use Rattle.std.specs.List.{list_all}
use Rattle.std.proofs.lemmas.Bool.{and_parts}
use Rattle.sv_ast.specs.Shape.{is_shaped_expression}
use Rattle.sv_ast.specs.Views.{expression_tree, expression_trees}
use Rattle.sv_width.specs.Scopes.{names_of}
use Rattle.sv_elab_stmt.specs.Cases.{item_tree, item_trees, AreItems}
use Rattle.sv_elab_stmt.proofs.ItemFacts.{items_push}
use Rattle.sv_elab_stmt.proofs.WalkFacts.{left_more, forms_more}
use Rattle.sv_elab_stmt.proofs.cases.add_items.Goals as goal

pub measured-requires : goal.measured-requires
measured-requires c =
    let e = c.expr-item.result in
    let rest = drop (c.loop-expr.expr-index + 1) c.args.exprs.now in
    let split = left_more c.args.exprs.now c.loop-expr.expr-index e c.loop-expr-test.true
    c.expr-item.is in
    (and_parts (is_shaped_expression (expression_tree e))
    (list_all is_shaped_expression (expression_trees rest))
    (ap (λ xs. list_all is_shaped_expression (expression_trees xs)) (sym split)
    ∙ c.loop-expr.invariant.shaped)).0

pub loop-expr-preserved : goal.loop-expr-preserved
loop-expr-preserved c =
    let names = names_of c.args.scope.now in
    let e = c.expr-item.result in
    let old = c.loop-expr.items.items in
    let rest = drop (c.loop-expr.expr-index + 1) c.args.exprs.now in
    let split = left_more c.args.exprs.now c.loop-expr.expr-index e c.loop-expr-test.true
    c.expr-item.is in
    record {
      added = ap (λ xs. item_trees xs ++ expression_trees rest) c.in_ok-push.ensures.items
          ∙ forms_more item_tree old _ (expression_trees rest)
          ∙ ap (λ xs. item_trees old ++ expression_trees xs) (sym split)
          ∙ c.loop-expr.invariant.added;
      each = λ h. subst (AreItems names) (sym c.in_ok-push.ensures.items)
          (items_push names old _ (c.loop-expr.invariant.each h) c.in_ok-operand.ensures);
      shaped =
          (and_parts (is_shaped_expression (expression_tree e))
          (list_all is_shaped_expression (expression_trees rest))
          (ap (λ xs. list_all is_shaped_expression (expression_trees xs)) (sym split)
          ∙ c.loop-expr.invariant.shaped)).1;
    }
