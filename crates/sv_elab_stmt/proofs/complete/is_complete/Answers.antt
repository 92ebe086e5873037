use Rattle.std.proofs.Common.{sym, ap, ◌∙◌}
use Rattle.std.specs.List.{list_all}
use Rattle.sv_ast.specs.Views.{expression_tree}
use Rattle.sv_elab_stmt.specs.Cases.{item_trees, values_of}
use Rattle.sv_elab_stmt.proofs.CompleteFacts.{not_complete, complete_is, covered}
use Rattle.sv_elab_stmt.proofs.complete.is_complete.Goals as goal

pub returns-then-not-has_few_values-clause-found : goal.returns-then-not-has_few_values-clause-found
returns-then-not-has_few_values-clause-found c = λ names items passed is.
    not_complete names.scope (expression_tree c.args.selector.now) (item_trees c.args.items.now)
    c.args.to.width c.args.own c.args.to.signed
    is (sym c.if-not-has_few_values.ensures)

pub returns-clause-found : goal.returns-clause-found
returns-clause-found c = λ names items passed is.
    let n = c.args.to.width in
    let s = c.args.to.signed in
    let trees = item_trees c.args.items.now in
    c.are_all.ensures
    ∙ ap (list_all (λ has. has)) c.deref.ensures.value
    ∙ covered c.args.own n s (values_of names n s trees) c.in_ok-held.held.items
    (c.in_ok-held.ensures.found names items passed)
    ∙ complete_is names.scope (expression_tree c.args.selector.now) trees n c.args.own s is
    (sym c.if-not-has_few_values.ensures)
