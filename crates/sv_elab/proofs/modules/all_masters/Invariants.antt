use Rattle.std.proofs.Common.{◌≡◌, ℕ, List, ◌||◌, drop, map}
use Rattle.std.specs.List.{list_any, flat_map}
use Rattle.std.specs.Str.{bytes_eq}
use Rattle.sv_ast.specs.Instances.{masters}
use Rattle.sv_ast.specs.Views.{module_tree}
use Rattle.sv_elab.proofs.modules.all_masters.Given as goal

-- the names so far, with those of the modules that are left, are all
abbrev pub invariant-loop-module : goal.invariant-loop-module
invariant-loop-module l = (n : List ℕ)
    → (list_any (bytes_eq n) l.found.keys
    || list_any (bytes_eq n)
    (flat_map masters (map module_tree (drop l.module-index l.modules))))
    ≡ list_any (bytes_eq n) (flat_map masters (map module_tree l.modules))
