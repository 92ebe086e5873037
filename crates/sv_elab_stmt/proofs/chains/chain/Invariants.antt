use Rattle.std.proofs.Common.{◌≡◌, vec_len}
use Rattle.sv_flat.specs.Views.{typed_tree, flat_statement}
use Rattle.sv_elab_rules.specs.CaseChains.{chain}
use Rattle.sv_elab_stmt.specs.Chains.{flat_arms}
use Rattle.sv_elab_stmt.proofs.chains.chain.Given as goal

abbrev pub invariant-loop-arm : goal.invariant-loop-arm
invariant-loop-arm l =
    chain (typed_tree l.selector) (flat_arms l.arms.items) (flat_statement l.rest)
    ≡ chain (typed_tree l.selector) (flat_arms l.fn.arms.items) (flat_statement l.fn.otherwise)

abbrev pub decreases-loop-arm : goal.decreases-loop-arm
decreases-loop-arm l = vec_len l.arms
