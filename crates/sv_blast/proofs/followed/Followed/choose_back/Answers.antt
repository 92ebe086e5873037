use Rattle.std.proofs.Common.{◌++◌, ap, ◌∙◌, rules}
use Rattle.std.specs.Prelude.{option_to_list}
use Rattle.std.specs.Result.{IsErrOf}
use Rattle.sv_gates.specs.declared.gates.GateFault.TheVariants.{Full}
use Rattle.sv_blast.proofs.CopyChoices.{last_stands, last_full, last_taken}
use Rattle.sv_gates.specs.Formulas.{most_variables}
use Rattle.sv_blast.proofs.followed.Followed.choose_back.Goals as goal

pub choose-requires-clause-arm : goal.choose-requires-clause-arm
choose-requires-clause-arm c =
    let left = c.pop.new.self.items in
    let split = c.pop.ensures.items ∙ ap (λ o. left ++ option_to_list o) c.in-Some.is in
    (last_stands _ _ _ _ _ _ left c.in-Some.arm _ c.arms.invariant split).1

pub returns-in_err-choose-clause-full : goal.returns-in_err-choose-clause-full
returns-in_err-choose-clause-full c =
    let left = c.pop.new.self.items in
    let split = c.pop.ensures.items ∙ ap (λ o. left ++ option_to_list o) c.in-Some.is in
    let same : IsErrOf c.from_residual.result Full → IsErrOf c.choose.result Full = search rules in
    λ e. last_full _ _ _ _ _ _ left c.in-Some.arm _ c.arms.invariant split most_variables
    (c.choose.ensures.full (same e))

pub arms-preserved : goal.arms-preserved
arms-preserved c =
    let left = c.pop.new.self.items in
    let split = c.pop.ensures.items ∙ ap (λ o. left ++ option_to_list o) c.in-Some.is in
    last_taken _ _ _ _ _ _ left c.in-Some.arm _ c.arms.invariant split c.choose.new.gates _
    c.in_ok-choose.ensures.made c.in_ok-choose.ensures.stand c.in_ok-choose.ensures.begins
