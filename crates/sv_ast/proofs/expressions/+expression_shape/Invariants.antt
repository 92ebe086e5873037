use Rattle.std.proofs.Common.{◌≡◌, drop}
use Rattle.std.specs.List.{list_all}
use Rattle.sv_ast.specs.Shape.{is_shaped_expression}
use Rattle.sv_ast.specs.Views.{expression_trees}
use Rattle.sv_ast.proofs.expressions.+expression_shape.Given as goal

-- the answer is that of the expressions that are left
abbrev pub invariant-are_shaped-loop-expr : goal.invariant-are_shaped-loop-expr
invariant-are_shaped-loop-expr l =
    list_all is_shaped_expression (expression_trees (drop l.expr-index l.exprs))
    ≡ list_all is_shaped_expression (expression_trees l.exprs)
