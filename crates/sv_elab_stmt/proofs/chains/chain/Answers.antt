use Rattle.std.proofs.Common.{◌++◌, sym, ap, ◌∙◌}
use Rattle.std.specs.Prelude.{option_to_list}
use Rattle.sv_flat.specs.Views.{typed_tree, flat_statement}
use Rattle.sv_elab_rules.specs.CaseChains.{chain}
use Rattle.sv_elab_stmt.specs.Chains.{flat_arm, flat_arms}
use Rattle.sv_elab_stmt.proofs.ChainFacts.{chain_push}
use Rattle.sv_elab_stmt.proofs.WalkFacts.{forms_push}
use Rattle.sv_elab_stmt.proofs.chains.chain.Goals as goal

pub loop-arm-preserved : goal.loop-arm-preserved
loop-arm-preserved c =
    let s = typed_tree c.args.selector.now in
    let left = c.pop.new.self.items in
    let arm = c.in-Some.arm in
    let split = c.pop.ensures.items ∙ ap (λ o. left ++ option_to_list o) c.in-Some.is in
    ap (chain s (flat_arms left)) c.in_ok-rest.ensures
    ∙ sym (chain_push s (flat_arms left) (flat_arm arm) (flat_statement c.loop-arm.rest))
    ∙ ap (λ arms. chain s arms (flat_statement c.loop-arm.rest)) (sym (forms_push flat_arm left arm)
    ∙ ap flat_arms (sym split))
    ∙ c.loop-arm.invariant
