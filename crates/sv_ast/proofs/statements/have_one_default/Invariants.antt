use Rattle.std.proofs.Common.{◌≡◌, ◌+◌, ◌≤◌, drop}
use Rattle.sv_ast.specs.Shape.{default_count}
use Rattle.sv_ast.specs.Views.{arm_trees, arms_of}
use Rattle.sv_ast.proofs.statements.have_one_default.Given as goal

-- the defaults so far and those that are left are all
abbrev pub invariant-loop-arm : goal.invariant-loop-arm
invariant-loop-arm l = record {
  all : l.defaults + default_count (arms_of (arm_trees (drop l.arm-index l.arms))) ≡
      default_count (arms_of (arm_trees l.arms));
  few : l.defaults ≤ l.arm-index;
}
