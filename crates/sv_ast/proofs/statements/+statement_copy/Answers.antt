use Rattle.std.proofs.Common.{◌≡◌, refl, sym, ap, subst, ◌∙◌}
use Rattle.std.specs.Prelude.{IfOk}
use Rattle.sv_ast.specs.declared.statements.Stmt.{Stmt}
use Rattle.sv_ast.specs.Tree.{StatementTree, block, case_of}
use Rattle.sv_ast.specs.Views.{expression_tree, statement_tree, statement_trees, arm_trees, arms_of}
use Rattle.sv_ast.proofs.Rows.{same_statements, case_is}
use Rattle.sv_ast.proofs.statements.+statement_copy.Goals as goal

pub Stmt::copy-returns-in-Assign : goal.Stmt::copy-returns-in-Assign
Stmt::copy-returns-in-Assign t c =
    subst (λ (s : Stmt).
    IfOk c.assign_copy.result (λ copy. statement_tree copy ≡ statement_tree s))
    (sym c.in-Assign.is) c.assign_copy.ensures

pub Stmt::copy-returns-in_ok-copies-in-Block : goal.Stmt::copy-returns-in_ok-copies-in-Block
Stmt::copy-returns-in_ok-copies-in-Block t c =
    let stmts = c.in_ok-copies-in-Block.ensures ∙ ap statement_trees c.deref.ensures.value in
    ap block (same_statements c.in_ok-copies-in-Block.field-0 c.in-Block.stmts stmts)
    ∙ ap statement_tree (sym c.in-Block.is)

pub Stmt::copy-returns-in_ok-arms-in-Case : goal.Stmt::copy-returns-in_ok-arms-in-Case
Stmt::copy-returns-in_ok-arms-in-Case t c =
    let arms = c.in_ok-arms-in-Case.ensures ∙ ap arm_trees c.deref-in-Case.ensures.value in
    let same : case_of c.in-Case.place (expression_tree c.in-Case.selector)
    (arms_of (arm_trees c.in_ok-arms-in-Case.arms.items)) ≡ statement_tree c.args.self.now =
    ap (λ trees. case_of c.in-Case.place (expression_tree c.in-Case.selector) (arms_of trees)) arms
    ∙ sym (case_is c.in-Case.place c.in-Case.arms _ _ refl)
    ∙ ap statement_tree (sym c.in-Case.is) in
    subst (λ (t : StatementTree). IfOk c.case_of.result (λ copy. statement_tree copy ≡ t)) same
    c.case_of.ensures
