use Rattle.std.proofs.Common.{◌≡◌, ◌++◌, drop, map}
use Rattle.sv_ast.specs.Views.{parameter_tree}
use Rattle.sv_elab_decl.specs.Overridden.{parameter_trees}
use Rattle.sv_elab_decl.proofs.overriding.header_params.Given as goal

-- the parameters so far, with those that are left, are all
abbrev pub invariant-loop-param : goal.invariant-loop-param
invariant-loop-param l =
    parameter_trees l.free.items ++ map parameter_tree (drop l.param-index l.params) ≡
    map parameter_tree l.params
