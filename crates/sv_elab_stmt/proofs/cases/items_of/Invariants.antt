use Rattle.std.proofs.Common.{◌≡◌, true, ◌++◌, drop}
use Rattle.sv_ast.specs.Shape.{are_shaped_arms}
use Rattle.sv_ast.specs.Views.{arm_trees, arms_of}
use Rattle.sv_elab_rules.specs.CaseChains.{arm_items}
use Rattle.sv_width.specs.Scopes.{names_of}
use Rattle.sv_elab_stmt.specs.Cases.{item_trees, AreItems}
use Rattle.sv_elab_stmt.proofs.cases.items_of.Given as goal

-- the items so far and those of the arms that are left are all
abbrev pub invariant-loop-arm : goal.invariant-loop-arm
invariant-loop-arm l = record {
  all : item_trees l.items.items ++ arm_items (arms_of (arm_trees (drop l.arm-index l.arms))) ≡
      arm_items (arms_of (arm_trees l.arms));
  each : AreItems (names_of l.scope) l.items.items;
  shaped : are_shaped_arms (arms_of (arm_trees (drop l.arm-index l.arms))) ≡ true;
}
