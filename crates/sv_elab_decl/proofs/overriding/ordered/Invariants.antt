use Rattle.std.proofs.Common.{◌≡◌, ℕ, true, List, [], drop}
use Rattle.std.specs.List.{list_all}
use Rattle.sv_ast.specs.Scopes.{Number}
use Rattle.sv_ast.specs.Instances.{entry, open_parameters}
use Rattle.sv_ast.specs.Shape.{is_shaped_expression}
use Rattle.sv_ast.specs.Views.{expression_trees, module_tree}
use Rattle.sv_elab_rules.specs.Overrides.{ordered_walk}
use Rattle.sv_width.specs.Scopes.{names_of}
use Rattle.sv_elab_decl.specs.Overridden.{parameter_trees}
use Rattle.sv_elab_decl.specs.Sites.{settings_of}
use Rattle.sv_elab_decl.proofs.overriding.ordered.Given as goal

-- the walk over what is left, from values that say the same of each name, ends as that over all
abbrev pub invariant-loop-index : goal.invariant-loop-index
invariant-loop-index l = record {
  walk : (set : List (List ℕ × Number))
      × ((ordered_walk (names_of l.outer) (parameter_trees (drop l.index l.free.items)) set
      (expression_trees (drop l.index l.values))).end
      ≡ (ordered_walk (names_of l.outer) (open_parameters (module_tree l.fn.master)) []
      (expression_trees l.values)).end)
      × ((n : List ℕ) → entry set n ≡ entry (settings_of l.set.entries) n);
  shaped : list_all is_shaped_expression (expression_trees (drop l.index l.values)) ≡ true;
}
