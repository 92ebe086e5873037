use Rattle.std.proofs.Common.{◌≡◌, ◌++◌, drop}
use Rattle.sv_ast.specs.Views.{statement_trees, arm_trees}
use Rattle.sv_ast.proofs.statements.+statement_copy.Given as goal

-- the copies so far and the statements that are left have the plain forms of all
abbrev pub invariant-copies-loop-stmt : goal.invariant-copies-loop-stmt
invariant-copies-loop-stmt l =
    statement_trees l.copies.items ++ statement_trees (drop l.stmt-index l.stmts) ≡
    statement_trees l.stmts

-- the same of arms
abbrev pub invariant-arm_copies-loop-arm : goal.invariant-arm_copies-loop-arm
invariant-arm_copies-loop-arm l =
    arm_trees l.copies.items ++ arm_trees (drop l.arm-index l.arms) ≡ arm_trees l.arms
