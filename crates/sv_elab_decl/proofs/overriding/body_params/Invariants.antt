use Rattle.std.proofs.Common.{◌≡◌, ◌++◌, drop, map, filter}
use Rattle.std.specs.List.{filter_map}
use Rattle.sv_ast.specs.Instances.{parameter_of}
use Rattle.sv_ast.specs.Views.{item_tree}
use Rattle.sv_elab_decl.specs.Overridden.{is_free, parameter_trees}
use Rattle.sv_elab_decl.proofs.overriding.body_params.Given as goal

-- the parameters so far, with those that are left, are all
abbrev pub invariant-loop-item : goal.invariant-loop-item
invariant-loop-item l =
    parameter_trees l.free.items ++ filter is_free
    (filter_map parameter_of (map item_tree (drop l.item-index l.items)))
    ≡ filter is_free (filter_map parameter_of (map item_tree l.items))
