-- The numbers of a tree that was read fit their lengths.
use Rattle.sv_ast.specs.declared.expressions.Expr as expr
use Rattle.sv_ast.specs.declared.expressions.Expr.{Expr, Row_of-Expr, end_of-Expr, more_of-Expr}
use Rattle.sv_ast.specs.declared.statements.Stmt as stmt
use Rattle.sv_ast.specs.declared.statements.Stmt.{Stmt, Row_of-Stmt, end_of-Stmt, more_of-Stmt}
use Rattle.sv_ast.specs.declared.statements.Stmt.{Row_of-Arm, end_of-Arm, more_of-Arm}
use Rattle.sv_ast.specs.Views.{expression_tree, row_parts, statement_tree, row_statements, row_arms}
use Rattle.sv_elab_laws.specs.Numbers.{NumbersFit, PartNumbersFit, SelectorsFit, SelectorsFitIn}
use Rattle.sv_elab_laws.specs.Numbers.{SelectorsFitBy}

mutual
  pub numbers_fit : (e : Expr) → NumbersFit (expression_tree e)
  numbers_fit (expr.Number number place) = number.bits.in_range.2
  numbers_fit (expr.Name name place) = tt
  numbers_fit (expr.Bit' name place p index) = numbers_fit index
  numbers_fit (expr.Part' name place p high q low) = (numbers_fit high, numbers_fit low)
  numbers_fit (expr.Unary' op place p operand) = numbers_fit operand
  numbers_fit (expr.Binary' op place p left q right) = (numbers_fit left, numbers_fit right)
  numbers_fit (expr.Choice' place p condition q first r second) =
      (numbers_fit condition, numbers_fit first, numbers_fit second)
  numbers_fit (expr.Join' place shape row) = part_numbers_fit row
  numbers_fit (expr.Repeat' place p count shape row) = (numbers_fit count, part_numbers_fit row)

  part_numbers_fit : {n : _} (row : Row_of-Expr n) → PartNumbersFit (row_parts row)
  part_numbers_fit end_of-Expr = tt
  part_numbers_fit (more_of-Expr e row) = (numbers_fit e, part_numbers_fit row)

mutual
  pub selectors_fit : (s : Stmt) → SelectorsFit (statement_tree s)
  selectors_fit stmt.Null = tt
  selectors_fit (stmt.Assign targets place blocking value) = tt
  selectors_fit (stmt.Block' shape row) = selectors_fit_in row
  selectors_fit (stmt.If' place condition p first stmt.None') = selectors_fit first
  selectors_fit (stmt.If' place condition p first (stmt.Some' q second)) =
      (selectors_fit first, selectors_fit second)
  selectors_fit (stmt.Case' place selector shape row) = (numbers_fit selector, selectors_fit_by row)

  selectors_fit_in : {n : _} (row : Row_of-Stmt n) → SelectorsFitIn (row_statements row)
  selectors_fit_in end_of-Stmt = tt
  selectors_fit_in (more_of-Stmt s row) = (selectors_fit s, selectors_fit_in row)

  selectors_fit_by : {n : _} (row : Row_of-Arm n) → SelectorsFitBy (row_arms row)
  selectors_fit_by end_of-Arm = tt
  selectors_fit_by (more_of-Arm place items body row) = (selectors_fit body, selectors_fit_by row)
