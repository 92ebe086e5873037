-- The numbers of the statements that the code holds have lengths.
use Rattle.std.proofs.Common.{List, [], ◌∷◌}
use Rattle.sv_ast.specs.declared.expressions.Expr.{Expr}
use Rattle.sv_ast.specs.declared.statements.Stmt as stmt
use Rattle.sv_ast.specs.declared.statements.Stmt.{Stmt, Row_of-Stmt, end_of-Stmt, more_of-Stmt}
use Rattle.sv_ast.specs.declared.statements.Stmt.{Row_of-Arm, end_of-Arm, more_of-Arm}
use Rattle.sv_ast.specs.Views.{expression_trees, statement_tree, row_statements, row_arms}
use Rattle.sv_width.specs.WrittenLengths.{ItemsHaveLengths, StatementHasLengths}
use Rattle.sv_width.specs.WrittenLengths.{StatementsHaveLengths, ArmsHaveLengths}
use Rattle.sv_width.proofs.Ends.{expression_lengths}

items_lengths : (es : List Expr) → ItemsHaveLengths (expression_trees es)
items_lengths [] = tt
items_lengths (e ∷ es) = (expression_lengths e, items_lengths es)

mutual
  pub statement_lengths : (s : Stmt) → StatementHasLengths (statement_tree s)
  statement_lengths stmt.Null = tt
  statement_lengths (stmt.Assign targets place blocking value) = expression_lengths value
  statement_lengths (stmt.Block' shape row) = statements_lengths row
  statement_lengths (stmt.If' place condition p first stmt.None') =
      (expression_lengths condition, statement_lengths first)
  statement_lengths (stmt.If' place condition p first (stmt.Some' q second)) =
      (expression_lengths condition, statement_lengths first, statement_lengths second)
  statement_lengths (stmt.Case' place selector shape row) =
      (expression_lengths selector, arms_lengths row)

  statements_lengths : {n : _} (row : Row_of-Stmt n) → StatementsHaveLengths (row_statements row)
  statements_lengths end_of-Stmt = tt
  statements_lengths (more_of-Stmt s row) = (statement_lengths s, statements_lengths row)

  arms_lengths : {n : _} (row : Row_of-Arm n) → ArmsHaveLengths (row_arms row)
  arms_lengths end_of-Arm = tt
  arms_lengths (more_of-Arm place items body row) =
      (items_lengths items.items, statement_lengths body, arms_lengths row)
