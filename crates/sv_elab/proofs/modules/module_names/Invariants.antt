use Rattle.std.proofs.Common.{◌≡◌, [], ◌++◌, drop, map}
use Rattle.sv_ast.specs.Views.{module_tree}
use Rattle.sv_elab_rules.specs.Texts.{module_names}
use Rattle.sv_elab.specs.Modules.{names_of}
use Rattle.sv_elab.proofs.modules.module_names.Given as goal

-- the walk over what is left ends as that over all, and the names so far with those that are left
-- are all
abbrev pub invariant-loop-module : goal.invariant-loop-module
invariant-loop-module l = record {
  walk : (module_names l.names.keys (map module_tree (drop l.module-index l.modules))).end ≡
      (module_names [] (map module_tree l.modules)).end;
  all : l.names.keys ++ names_of (drop l.module-index l.modules) ≡ names_of l.modules;
}
