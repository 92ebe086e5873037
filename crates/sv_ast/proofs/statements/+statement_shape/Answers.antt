use Rattle.std.proofs.Common.{sym, ap, ◌∙◌}
use Rattle.sv_ast.specs.declared.statements.Stmt.TheBlock.{hidden-the_row-Arm-1}
use Rattle.sv_ast.specs.Shape.{is_shaped_statement, are_shaped_statements}
use Rattle.sv_ast.specs.Views.{expression_tree, statement_tree, statement_trees, statements_of}
use Rattle.sv_ast.specs.Views.{arm_trees, row_arms, arms_of}
use Rattle.sv_ast.proofs.Rows.{row_statements-hidden, row_arms-hidden}
use Rattle.sv_ast.proofs.Members.{are_cased, some_arms, shaped_selector}
use Rattle.sv_ast.proofs.statements.+statement_shape.Goals as goal

pub Stmt::is_shaped-returns-in-Block : goal.Stmt::is_shaped-returns-in-Block
Stmt::is_shaped-returns-in-Block t c =
    c.are_shaped_statements.ensures
    ∙ ap (λ ss. are_shaped_statements (statements_of (statement_trees ss))) c.deref.ensures.value
    ∙ ap are_shaped_statements (sym (row_statements-hidden c.in-Block.stmts))
    ∙ ap (λ s. is_shaped_statement (statement_tree s)) (sym c.in-Block.is)

pub Stmt::is_shaped-returns-then-is_shaped-4 : goal.Stmt::is_shaped-returns-then-is_shaped-4
Stmt::is_shaped-returns-then-is_shaped-4 t c =
    c.are_shaped_arms.ensures
    ∙ ap (λ arms. are_cased (arms_of (arm_trees arms))) c.deref-then-is_shaped-4.ensures.value
    ∙ ap are_cased (sym (row_arms-hidden c.in-Case.arms))
    ∙ shaped_selector c.in-Case.place (expression_tree c.in-Case.selector)
    (row_arms (hidden-the_row-Arm-1 c.in-Case.arms)) c.if-is_shaped-4.ensures
    ∙ ap (λ s. is_shaped_statement (statement_tree s)) (sym c.in-Case.is)

pub are_shaped_arms-returns-then-have_one_default :
    goal.are_shaped_arms-returns-then-have_one_default
are_shaped_arms-returns-then-have_one_default t c =
    c.is_each_shaped.ensures
    ∙ some_arms c.args.arms.now c.if-is_empty.ensures c.if-have_one_default.ensures
