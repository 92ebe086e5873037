use Rattle.std.proofs.Common.{◌≡◌, true, [], drop, map}
use Rattle.std.specs.List.{list_all}
use Rattle.sv_ast.specs.Shape.{is_shaped_override}
use Rattle.sv_ast.specs.Views.{named_override, module_tree}
use Rattle.sv_elab_rules.specs.Overrides.{named_walk}
use Rattle.sv_width.specs.Scopes.{names_of}
use Rattle.sv_elab_decl.specs.Sites.{settings_of}
use Rattle.sv_elab_decl.proofs.overriding.named.Given as goal

-- the walk over what is left ends as that over all
abbrev pub invariant-loop-name : goal.invariant-loop-name
invariant-loop-name l = record {
  walk : (named_walk (names_of l.outer) (module_tree l.fn.master) (settings_of l.set.entries)
      (map named_override (drop l.name-index l.values))).end
      ≡ (named_walk (names_of l.outer) (module_tree l.fn.master) []
      (map named_override l.values)).end;
  shaped : list_all is_shaped_override (map named_override (drop l.name-index l.values)) ≡ true;
}
