-- A vector of a tree's own kind, which stands in the tree as a row, has the plain forms of its
-- items.
use Rattle.std.proofs.Common.{◌≡◌, refl, sym, ap, ◌∙◌}
use Rattle.std.specs.declared.alloc.Global.{Global}
use Rattle.std.specs.declared.vec.Vec.{Vec}
use Rattle.sv_num.specs.declared.faults.Place.{Place}
use Rattle.sv_ast.specs.declared.expressions.Expr.{Expr, Row_of-Expr, end_of-Expr, more_of-Expr}
use Rattle.sv_ast.specs.declared.expressions.Expr.{items-the_row-Expr, items_hidden-the_row-Expr-0}
use Rattle.sv_ast.specs.declared.expressions.Expr.TheBlock.{hidden-the_row-Expr-0}
use Rattle.sv_ast.specs.declared.statements.Arm.{Arm}
use Rattle.sv_ast.specs.declared.statements.Stmt.{Stmt, Row_of-Stmt, end_of-Stmt, more_of-Stmt}
use Rattle.sv_ast.specs.declared.statements.Stmt.{items-the_row-Stmt, items_hidden-the_row-Stmt-0}
use Rattle.sv_ast.specs.declared.statements.Stmt.{Row_of-Arm, end_of-Arm, more_of-Arm}
use Rattle.sv_ast.specs.declared.statements.Stmt.{items-the_row-Arm, items_hidden-the_row-Arm-1}
use Rattle.sv_ast.specs.declared.statements.Stmt.TheBlock.{hidden-the_row-Stmt-0}
use Rattle.sv_ast.specs.declared.statements.Stmt.TheBlock.{hidden-the_row-Arm-1}
use Rattle.sv_ast.specs.Tree.{ExpressionTree, more_expressions, replication, more_statements}
use Rattle.sv_ast.specs.Tree.{more_arms, case_of}
use Rattle.sv_ast.specs.Views.{expression_tree, expression_trees, row_parts, parts_of}
use Rattle.sv_ast.specs.Views.{statement_tree, statement_trees, row_statements, statements_of}
use Rattle.sv_ast.specs.Views.{arm_trees, row_arms, arms_of}

-- Parts of a join or replication

row_parts-items : (n : _) (row : Row_of-Expr n) →
    row_parts row ≡ parts_of (expression_trees (items-the_row-Expr n row))
row_parts-items _ end_of-Expr = refl
row_parts-items _ (more_of-Expr e row) =
    ap (more_expressions (expression_tree e)) (row_parts-items _ row)

-- the parts of a join or replication are those of its vector, in order
pub row_parts-hidden : (v : Vec Expr Global) →
    row_parts (hidden-the_row-Expr-0 v) ≡ parts_of (expression_trees v.items)
row_parts-hidden v =
    row_parts-items _ (hidden-the_row-Expr-0 v)
    ∙ ap (λ es. parts_of (expression_trees es)) (items_hidden-the_row-Expr-0 v)

-- so vectors with equal plain forms give equal parts
pub same_parts :
    (v w : Vec Expr Global) →
    expression_trees v.items ≡ expression_trees w.items →
    row_parts (hidden-the_row-Expr-0 v) ≡ row_parts (hidden-the_row-Expr-0 w)
same_parts v w same = row_parts-hidden v ∙ ap parts_of same ∙ sym (row_parts-hidden w)

-- and equal replications, where the counts are equal too
pub same_replication :
    (place : Place) (v w : Vec Expr Global) (a b : ExpressionTree) →
    a ≡ b →
    expression_trees v.items ≡ expression_trees w.items →
    replication place a (row_parts (hidden-the_row-Expr-0 v)) ≡
    replication place b (row_parts (hidden-the_row-Expr-0 w))
same_replication place v w a b count same =
    ap (λ n. replication place n (row_parts (hidden-the_row-Expr-0 v))) count
    ∙ ap (replication place b) (same_parts v w same)

-- Statements of a block

row_statements-items : (n : _) (row : Row_of-Stmt n) →
    row_statements row ≡ statements_of (statement_trees (items-the_row-Stmt n row))
row_statements-items _ end_of-Stmt = refl
row_statements-items _ (more_of-Stmt s row) =
    ap (more_statements (statement_tree s)) (row_statements-items _ row)

-- the statements of a block are those of its vector, in order
pub row_statements-hidden : (v : Vec Stmt Global) →
    row_statements (hidden-the_row-Stmt-0 v) ≡ statements_of (statement_trees v.items)
row_statements-hidden v =
    row_statements-items _ (hidden-the_row-Stmt-0 v)
    ∙ ap (λ ss. statements_of (statement_trees ss)) (items_hidden-the_row-Stmt-0 v)

-- so vectors with equal plain forms give equal statements
pub same_statements :
    (v w : Vec Stmt Global) →
    statement_trees v.items ≡ statement_trees w.items →
    row_statements (hidden-the_row-Stmt-0 v) ≡ row_statements (hidden-the_row-Stmt-0 w)
same_statements v w same =
    row_statements-hidden v ∙ ap statements_of same ∙ sym (row_statements-hidden w)

-- Arms of a case

row_arms-items : (n : _) (row : Row_of-Arm n) →
    row_arms row ≡ arms_of (arm_trees (items-the_row-Arm n row))
row_arms-items _ end_of-Arm = refl
row_arms-items _ (more_of-Arm place items body row) =
    ap (more_arms place (expression_trees items.items) (statement_tree body)) (row_arms-items _ row)

-- the arms of a case are those of its vector, in order
pub row_arms-hidden : (v : Vec Arm Global) →
    row_arms (hidden-the_row-Arm-1 v) ≡ arms_of (arm_trees v.items)
row_arms-hidden v =
    row_arms-items _ (hidden-the_row-Arm-1 v)
    ∙ ap (λ arms. arms_of (arm_trees arms)) (items_hidden-the_row-Arm-1 v)

-- so a vector gives the case of its arms, where the selectors are equal too
pub case_is :
    (place : Place) (v : Vec Arm Global) (a b : ExpressionTree) →
    a ≡ b →
    case_of place a (row_arms (hidden-the_row-Arm-1 v)) ≡
    case_of place b (arms_of (arm_trees v.items))
case_is place v a b selector =
    ap (λ e. case_of place e (row_arms (hidden-the_row-Arm-1 v))) selector
    ∙ ap (case_of place b) (row_arms-hidden v)
