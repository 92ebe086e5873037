use Rattle.std.proofs.Common.{◌≡◌, ℕ, List, ◌||◌, drop}
use Rattle.std.specs.List.{list_any}
use Rattle.std.specs.Str.{bytes_eq}
use Rattle.sv_ast.specs.Tree.{ParameterTree}
use Rattle.sv_ast.specs.Views.{module_tree}
use Rattle.sv_elab_rules.specs.Overrides.{is_open}
use Rattle.sv_elab_decl.specs.Overridden.{parameter_trees}
use Rattle.sv_elab_decl.proofs.overriding.open_names.Given as goal

-- the names so far, with those of the parameters that are left, are all
abbrev pub invariant-loop-param : goal.invariant-loop-param
invariant-loop-param l = (n : List ℕ)
    → (list_any (bytes_eq n) l.names.keys
    || list_any (λ (p : ParameterTree).
    bytes_eq n p.name) (parameter_trees (drop l.param-index l.param-items)))
    ≡ is_open (module_tree l.fn.master) n
