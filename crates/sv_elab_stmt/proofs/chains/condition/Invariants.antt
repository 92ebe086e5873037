use Rattle.std.proofs.Common.{◌≡◌}
use Rattle.std.specs.Prelude.{option_map}
use Rattle.sv_flat.specs.Views.{typed_tree, typed_trees}
use Rattle.sv_elab_stmt.specs.Chains.{condition_of}
use Rattle.sv_elab_stmt.proofs.chains.condition.Given as goal

abbrev pub invariant-loop-item : goal.invariant-loop-item
invariant-loop-item l =
    option_map typed_tree l.condition ≡ condition_of (typed_tree l.selector) (typed_trees l.yielded)
