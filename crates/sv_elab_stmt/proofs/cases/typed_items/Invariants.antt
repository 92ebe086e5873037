use Rattle.std.proofs.Common.{◌≡◌, ◌≤◌, true, ◌++◌, drop}
use Rattle.std.specs.List.{list_all}
use Rattle.sv_ast.specs.Shape.{is_shaped_expression}
use Rattle.sv_flat.specs.Views.{typed_trees}
use Rattle.sv_elab_rules.specs.Statements.{items_walk}
use Rattle.sv_width.specs.Scopes.{names_of}
use Rattle.sv_elab_stmt.specs.Cases.{item_trees, AreItems, greatest}
use Rattle.sv_elab_stmt.proofs.WalkFacts.{mapped}
use Rattle.sv_elab_stmt.proofs.cases.typed_items.Given as goal

-- the walk over the items that are left ends, behind those so far, as that over all
abbrev pub invariant-loop-item : goal.invariant-loop-item
invariant-loop-item l = record {
  walk : mapped (λ fs. typed_trees l.typed.items ++ fs)
      (items_walk (names_of l.scope) l.to.width l.to.signed
      (item_trees (drop l.item-index l.items))).end
      ≡ (items_walk (names_of l.scope) l.to.width l.to.signed (item_trees l.items)).end;
  each : AreItems (names_of l.scope) (drop l.item-index l.items);
  wide : greatest (drop l.item-index l.items) ≤ l.to.width;
  shaped : list_all is_shaped_expression (item_trees (drop l.item-index l.items)) ≡ true;
}
