use Rattle.std.proofs.Common.{◌≡◌, ◌+◌, ◌*◌, ◌≤◌, true, drop, map}
use Rattle.std.specs.List.{list_all}
use Rattle.sv_ast.specs.Shape.{is_shaped_item}
use Rattle.sv_ast.specs.Views.{item_tree}
use Rattle.sv_elab_rules.specs.InstanceSteps.{items_from, site_walk}
use Rattle.sv_width.specs.Scopes.{names_of}
use Rattle.sv_elab_decl.specs.Sites.{tables_of}
use Rattle.sv_elab.specs.Instances.{built_form, declared_names, taken_in}
use Rattle.sv_elab.specs.Nests.{site_at}
use Rattle.sv_elab.proofs.instances.+instances.Given as goal

-- the walk over what is left ends as that over all
abbrev pub invariant-add_items-loop-item : goal.invariant-add_items-loop-item
invariant-add_items-loop-item l = record {
  walk : (items_from (site_walk l.levels (tables_of l.shared.tables)) (tables_of l.shared.tables)
      (site_at l.nest)
      (names_of l.scope) (taken_in l.inside) (built_form l.built)
      (map item_tree (drop l.item-index l.items))).end
      ≡ (items_from (site_walk l.levels (tables_of l.shared.tables)) (tables_of l.shared.tables)
      (site_at l.fn.nest)
      (names_of l.scope) (declared_names l.scope) (built_form l.fn.built)
      (map item_tree l.items)).end;
  shaped : list_all is_shaped_item (map item_tree (drop l.item-index l.items)) ≡ true;
  nest : l.nest ≡ l.fn.nest;
  scope : l.inside.scope.now ≡ l.scope;
  more : l.fn.built.instances ≤ l.built.instances;
}

abbrev pub decreases-add_items : goal.decreases-add_items
decreases-add_items l = 3 * l.levels + 2

abbrev pub decreases-add_item : goal.decreases-add_item
decreases-add_item l = 3 * l.levels + 1

abbrev pub decreases-add_instance : goal.decreases-add_instance
decreases-add_instance l = 3 * l.levels
