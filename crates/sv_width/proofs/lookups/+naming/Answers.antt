use Rattle.std.proofs.Common.{◌≡◌, Bool, false, sym, ap, ◌∙◌}
use Rattle.std.specs.Prelude.{◌||◌}
use Rattle.sv_ast.specs.declared.expressions.Expr.TheBlock.{hidden-the_row-Expr-0}
use Rattle.sv_ast.specs.Views.{expression_tree, expression_trees, row_parts, parts_of}
use Rattle.sv_ast.proofs.Rows.{row_parts-hidden}
use Rattle.sv_elab_rules.specs.TypedExpressions.{names_signal, some_names_signal}
use Rattle.sv_width.specs.Scopes.{bindings_of}
use Rattle.sv_width.proofs.lookups.+naming.Goals as goal

pub names_signal-returns-in-Join : goal.names_signal-returns-in-Join
unfolding names_signal some_names_signal
names_signal-returns-in-Join t c =
    c.some_name_signal.ensures
    ∙ ap (λ es. some_names_signal (bindings_of c.args.scope.now) (parts_of (expression_trees es)))
    c.deref-in-Join.ensures.value
    ∙ ap (some_names_signal (bindings_of c.args.scope.now)) (sym (row_parts-hidden c.in-Join.parts))
    ∙ ap (λ e. names_signal (bindings_of c.args.scope.now) (expression_tree e)) (sym c.in-Join.is)

pub names_signal-returns-else-names_signal-5 : goal.names_signal-returns-else-names_signal-5
unfolding names_signal some_names_signal
names_signal-returns-else-names_signal-5 t c =
    let count : false ≡ names_signal (bindings_of c.args.scope.now)
    (expression_tree c.in-Repeat.count.value) =
    c.if-names_signal-5.ensures
    ∙ ap (λ e. names_signal (bindings_of c.args.scope.now) (expression_tree e))
    c.deref-in-Repeat.ensures in
    c.some_name_signal-else-names_signal-5.ensures
    ∙ ap (λ es. some_names_signal (bindings_of c.args.scope.now) (parts_of (expression_trees es)))
    c.deref-else-names_signal-5.ensures.value
    ∙ ap (some_names_signal (bindings_of c.args.scope.now))
    (sym (row_parts-hidden c.in-Repeat.parts))
    ∙ ap (λ (b : Bool). b
    || some_names_signal (bindings_of c.args.scope.now)
    (row_parts (hidden-the_row-Expr-0 c.in-Repeat.parts))) count
    ∙ ap (λ e. names_signal (bindings_of c.args.scope.now) (expression_tree e)) (sym c.in-Repeat.is)
