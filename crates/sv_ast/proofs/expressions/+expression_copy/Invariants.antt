use Rattle.std.proofs.Common.{◌≡◌, ◌++◌, drop}
use Rattle.sv_ast.specs.Views.{expression_trees}
use Rattle.sv_ast.proofs.expressions.+expression_copy.Given as goal

abbrev pub invariant-copies-loop-expr : goal.invariant-copies-loop-expr
invariant-copies-loop-expr l =
    expression_trees l.copies.items ++ expression_trees (drop l.expr-index l.exprs) ≡
    expression_trees l.exprs
