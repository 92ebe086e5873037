use Rattle.std.proofs.Common.{◌≡◌, true, drop, map}
use Rattle.std.specs.List.{list_all}
use Rattle.sv_ast.specs.Shape.{is_shaped_item}
use Rattle.sv_ast.specs.Views.{item_tree}
use Rattle.sv_elab_decl.specs.Sites.{site_of, declared_of}
use Rattle.sv_elab_decl.proofs.Courses.{Course}
use Rattle.sv_elab_decl.proofs.declarations.declare_items.Given as goal

-- the walk over the items that are left ends as that over all
abbrev pub invariant-loop-item : goal.invariant-loop-item
invariant-loop-item l = record {
  course : Course l.fn.site.base l.fn.least.0 (site_of l.fn.site) (declared_of l.fn.declared)
      (map item_tree l.fn.items) l.declared (map item_tree (drop l.item-index l.fn.items));
  shaped : list_all is_shaped_item (map item_tree (drop l.item-index l.fn.items)) ≡ true;
}
