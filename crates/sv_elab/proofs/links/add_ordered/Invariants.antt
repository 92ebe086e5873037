use Rattle.std.proofs.Common.{◌≡◌, true, drop, map}
use Rattle.std.specs.List.{list_all}
use Rattle.sv_ast.specs.Shape.{is_shaped_expression}
use Rattle.sv_ast.specs.Views.{declaration_tree, expression_tree}
use Rattle.sv_flat.specs.Views.{process_form}
use Rattle.sv_elab_rules.specs.Links.{ordered_links_walk}
use Rattle.sv_width.specs.Scopes.{names_of}
use Rattle.sv_elab.specs.Instances.{ports_form}
use Rattle.sv_elab.proofs.links.add_ordered.Given as goal

-- the walk over what is left ends as that over all
abbrev pub invariant-loop-index : goal.invariant-loop-index
invariant-loop-index l = record {
  walk : (ordered_links_walk (names_of l.outer) (ports_form l.ports)
      (map declaration_tree (drop l.index l.ports.master.now.ports.items))
      (map process_form l.processes.items)
      (map expression_tree (drop l.index l.exprs))).end
      ≡ (ordered_links_walk (names_of l.outer) (ports_form l.ports)
      (map declaration_tree l.ports.master.now.ports.items) (map process_form l.fn.processes.items)
      (map expression_tree l.exprs)).end;
  shaped : list_all is_shaped_expression (map expression_tree (drop l.index l.exprs)) ≡ true;
}
