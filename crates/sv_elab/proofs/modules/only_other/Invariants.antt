use Rattle.std.proofs.Common.{◌≡◌, ◌++◌, drop, map, filter}
use Rattle.std.specs.Prelude.{option_to_list}
use Rattle.sv_ast.specs.Instances.{only}
use Rattle.sv_ast.specs.Views.{module_tree}
use Rattle.sv_elab.specs.Modules.{plain, is_apart_from}
use Rattle.sv_elab.proofs.modules.only_other.Given as goal

-- what was found, with what is left, decides as all modules do
abbrev pub invariant-loop-module : goal.invariant-loop-module
invariant-loop-module l =
    only (option_to_list (plain l.found) ++ filter (is_apart_from l.masters.keys)
    (map module_tree (drop l.module-index l.modules)))
    ≡ only (filter (is_apart_from l.masters.keys) (map module_tree l.modules))
