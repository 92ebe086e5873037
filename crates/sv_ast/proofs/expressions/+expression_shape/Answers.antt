use Rattle.std.proofs.Common.{sym, ap, ◌∙◌}
use Rattle.sv_ast.specs.declared.expressions.Expr.TheBlock.{hidden-the_row-Expr-0}
use Rattle.sv_ast.specs.Shape.{is_shaped_expression}
use Rattle.sv_ast.specs.Views.{expression_tree, expression_trees, row_parts, parts_of}
use Rattle.sv_ast.proofs.Rows.{row_parts-hidden}
use Rattle.sv_ast.proofs.Members.{are_members, some_parts, shaped_count}
use Rattle.sv_ast.proofs.expressions.+expression_shape.Goals as goal

pub Expr::is_shaped-returns-in-Join : goal.Expr::is_shaped-returns-in-Join
Expr::is_shaped-returns-in-Join t c =
    c.are_shaped_parts.ensures
    ∙ ap (λ es. are_members (parts_of (expression_trees es))) c.deref-in-Join.ensures.value
    ∙ ap are_members (sym (row_parts-hidden c.in-Join.parts))
    ∙ ap (λ e. is_shaped_expression (expression_tree e)) (sym c.in-Join.is)

pub Expr::is_shaped-returns-then-is_shaped-5 : goal.Expr::is_shaped-returns-then-is_shaped-5
Expr::is_shaped-returns-then-is_shaped-5 t c =
    let count = c.if-is_shaped-5.ensures
    ∙ ap (λ e. is_shaped_expression (expression_tree e)) c.deref-in-Repeat.ensures in
    c.are_shaped_parts-then-is_shaped-5.ensures
    ∙ ap (λ es. are_members (parts_of (expression_trees es))) c.deref-then-is_shaped-5.ensures.value
    ∙ ap are_members (sym (row_parts-hidden c.in-Repeat.parts))
    ∙ shaped_count c.in-Repeat.field-0 (expression_tree c.in-Repeat.count.value)
    (row_parts (hidden-the_row-Expr-0 c.in-Repeat.parts)) count
    ∙ ap (λ e. is_shaped_expression (expression_tree e)) (sym c.in-Repeat.is)

pub are_shaped_parts-returns-then-not-is_empty : goal.are_shaped_parts-returns-then-not-is_empty
are_shaped_parts-returns-then-not-is_empty t c =
    c.are_shaped.ensures ∙ some_parts c.args.parts.now c.if-not-is_empty.ensures
