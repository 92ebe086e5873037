use Rattle.std.proofs.Common.{◌≡◌, true, None, ◌++◌, drop, map}
use Rattle.std.specs.List.{list_all}
use Rattle.sv_ast.specs.Shape.{is_shaped_parameter, is_shaped_declaration}
use Rattle.sv_ast.specs.Tree.{parameter_item, declared}
use Rattle.sv_ast.specs.Views.{parameter_tree, declaration_tree, module_tree}
use Rattle.sv_elab_rules.specs.Declarations.{nothing_declared}
use Rattle.sv_elab_decl.specs.Sites.{site_of, header_items, IsAhead}
use Rattle.sv_elab_decl.proofs.Courses.{Headed, Ahead}
use Rattle.sv_elab_decl.proofs.Headers.{Goes}
use Rattle.sv_elab_decl.proofs.declarations.declare_header.Given as goal

-- the walk over the parameters that are left, and then the ports, ends as that over all
abbrev pub invariant-loop-param : goal.invariant-loop-param
invariant-loop-param l = record {
  headed : Headed l.fn.site.base l.fn.least.0 (site_of l.fn.site) nothing_declared
      (header_items (module_tree l.fn.site.master.now)) l.header.declared
      (map parameter_item (map parameter_tree
      (drop l.param-index l.fn.site.master.now.params.items))
      ++ map declared (map declaration_tree l.fn.site.master.now.ports.items));
  passed : l.header.broken ≡ None;
  shaped : list_all is_shaped_parameter
      (map parameter_tree (drop l.param-index l.fn.site.master.now.params.items)) ≡ true;
}

-- the ports that are left come to the names of all; the walk over them ends as that over all, or is
-- refused already
abbrev pub invariant-loop-port : goal.invariant-loop-port
invariant-loop-port l = record {
  names : Ahead l.fn.site.base l.fn.least.0 (site_of l.fn.site) nothing_declared
      (header_items (module_tree l.fn.site.master.now)) l.header.declared.scope
      (map declared (map declaration_tree (drop l.port-index l.fn.site.master.now.ports.items)));
  ahead : IsAhead l.fn.site.base (module_tree l.fn.site.master.now) l.header.declared;
  goes : Goes l.fn.site.base l.fn.least.0 (site_of l.fn.site) l.header.declared
      (map declared (map declaration_tree (drop l.port-index l.fn.site.master.now.ports.items)))
      l.header.broken;
  shaped : list_all is_shaped_declaration
      (map declaration_tree (drop l.port-index l.fn.site.master.now.ports.items)) ≡ true;
}
