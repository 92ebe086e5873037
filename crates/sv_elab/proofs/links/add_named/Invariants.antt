use Rattle.std.proofs.Common.{◌≡◌, true, [], drop, map}
use Rattle.std.specs.List.{list_all}
use Rattle.sv_ast.specs.Shape.{is_shaped_link}
use Rattle.sv_ast.specs.Views.{named_link}
use Rattle.sv_flat.specs.Views.{process_form}
use Rattle.sv_elab_rules.specs.Links.{named_links_walk}
use Rattle.sv_width.specs.Scopes.{names_of}
use Rattle.sv_elab.specs.Instances.{ports_form}
use Rattle.sv_elab.proofs.links.add_named.Given as goal

-- the walk over what is left ends as that over all
abbrev pub invariant-loop-name : goal.invariant-loop-name
invariant-loop-name l = record {
  walk : (named_links_walk (names_of l.outer) (ports_form l.ports) l.linked.keys
      (map process_form l.processes.items)
      (map named_link (drop l.name-index l.links))).end
      ≡ (named_links_walk (names_of l.outer) (ports_form l.ports) []
      (map process_form l.fn.processes.items)
      (map named_link l.links)).end;
  shaped : list_all is_shaped_link (map named_link (drop l.name-index l.links)) ≡ true;
}
