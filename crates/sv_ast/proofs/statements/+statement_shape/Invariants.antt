use Rattle.std.proofs.Common.{◌≡◌, drop}
use Rattle.sv_ast.specs.Shape.{are_shaped_statements, are_shaped_arms}
use Rattle.sv_ast.specs.Views.{statement_trees, statements_of, arm_trees, arms_of}
use Rattle.sv_ast.proofs.statements.+statement_shape.Given as goal

-- the answer is that of the statements that are left
abbrev pub invariant-are_shaped_statements-loop-stmt :
    goal.invariant-are_shaped_statements-loop-stmt
invariant-are_shaped_statements-loop-stmt l =
    are_shaped_statements (statements_of (statement_trees (drop l.stmt-index l.stmts)))
    ≡ are_shaped_statements (statements_of (statement_trees l.stmts))

-- the same of arms
abbrev pub invariant-is_each_shaped-loop-arm : goal.invariant-is_each_shaped-loop-arm
invariant-is_each_shaped-loop-arm l =
    are_shaped_arms (arms_of (arm_trees (drop l.arm-index l.arms))) ≡
    are_shaped_arms (arms_of (arm_trees l.arms))
