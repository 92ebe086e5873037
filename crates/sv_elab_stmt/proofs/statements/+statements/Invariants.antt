use Rattle.std.proofs.Common.{◌≡◌, ◌≤◌, true, ◌++◌, length, drop}
use Rattle.sv_ast.specs.Shape.{are_shaped_statements, are_shaped_arms}
use Rattle.sv_ast.specs.Views.{statement_trees, statements_of, arm_trees, arms_of}
use Rattle.sv_flat.specs.Views.{flat_statements}
use Rattle.sv_elab_rules.specs.CaseChains.{arm_items}
use Rattle.sv_elab_rules.specs.Statements.{statements_walk, arms_walk}
use Rattle.sv_width.specs.Scopes.{names_of}
use Rattle.sv_elab_stmt.specs.Cases.{item_trees, AreItems, greatest}
use Rattle.sv_elab_stmt.specs.Chains.{flat_arms}
use Rattle.sv_elab_stmt.proofs.WalkFacts.{mapped, before}
use Rattle.sv_elab_stmt.proofs.statements.+statements.Given as goal

-- the walk over the statements that are left ends, behind those so far, as that over all
abbrev pub invariant-block-loop-stmt : goal.invariant-block-loop-stmt
invariant-block-loop-stmt l = record {
  walk : mapped (before (flat_statements l.flats.items))
      (statements_walk (names_of l.scope)
      (statements_of (statement_trees (drop l.stmt-index l.stmts)))).end
      ≡ (statements_walk (names_of l.scope) (statements_of (statement_trees l.stmts))).end;
  shaped : are_shaped_statements (statements_of (statement_trees (drop l.stmt-index l.stmts))) ≡
      true;
}

-- the same of arms, with the items that are left
abbrev pub invariant-flat_arms-loop-arm : goal.invariant-flat_arms-loop-arm
invariant-flat_arms-loop-arm l = record {
  walk : mapped (λ fs. flat_arms l.flats.items ++ fs)
      (arms_walk (names_of l.scope) l.to.width l.to.signed
      (arms_of (arm_trees (drop l.arm-index l.arms)))).end
      ≡ (arms_walk (names_of l.scope) l.to.width l.to.signed (arms_of (arm_trees l.arms))).end;
  all : item_trees (drop l.next l.items) ≡
      arm_items (arms_of (arm_trees (drop l.arm-index l.arms)));
  each : AreItems (names_of l.scope) (drop l.next l.items);
  wide : greatest (drop l.next l.items) ≤ l.to.width;
  inside : l.next ≤ length l.items;
  shaped : are_shaped_arms (arms_of (arm_trees (drop l.arm-index l.arms))) ≡ true;
}
