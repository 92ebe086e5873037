use Rattle.std.proofs.Common.{◌<◌, ◌++◌, sym, ap, ap₂, subst, ◌∙◌, rules}
use Rattle.std.specs.Prelude.{option_to_list}
use Rattle.std.specs.Result.{IsErrOf}
use Rattle.sv_gates.specs.declared.gates.GateFault.TheVariants.{Full}
use Rattle.sv_gates.specs.Formulas.{Formula, most_variables}
use Rattle.sv_gates.specs.Gates.{mux_gate}
use Rattle.sv_circuits.specs.Words.{Word, bitwise_word}
use Rattle.sv_circuits.specs.Circuits.{IsWord}
use Rattle.sv_blast.proofs.ArmSteps.{last_stands, last_full, last_taken}
use Rattle.sv_blast.proofs.arms.chosen_back.Goals as goal

pub chosen-requires-clause-c : goal.chosen-requires-clause-c
chosen-requires-clause-c c =
    let left = c.pop.new.self.items in
    let split = c.pop.ensures.items ∙ ap (λ o. left ++ option_to_list o) c.in-Some.is in
    (last_stands _ _ _ _ _ left c.in-Some.arm _ c.arms.invariant split).1.0

pub chosen-requires-clause-a : goal.chosen-requires-clause-a
chosen-requires-clause-a c =
    let left = c.pop.new.self.items in
    let split = c.pop.ensures.items ∙ ap (λ o. left ++ option_to_list o) c.in-Some.is in
    subst (IsWord c.arms.gates.variables) (sym c.deref.ensures.value)
    (last_stands _ _ _ _ _ left c.in-Some.arm _ c.arms.invariant split).1.1.0

pub returns-in_err-word-clause-full : goal.returns-in_err-word-clause-full
returns-in_err-word-clause-full c =
    let left = c.pop.new.self.items in
    let split = c.pop.ensures.items ∙ ap (λ o. left ++ option_to_list o) c.in-Some.is in
    let same : IsErrOf c.from_residual.result Full → IsErrOf c.chosen.result Full = search rules in
    λ e. last_full _ _ _ _ _ left c.in-Some.arm _ c.arms.invariant split most_variables
    (subst (λ (z : Formula × Word). most_variables < z.0.variables)
    (ap₂ (λ a b. bitwise_word (mux_gate c.in-Some.arm.condition) a b c.arms.gates)
    c.deref.ensures.value c.deref-in-Some.ensures.value)
    (c.chosen.ensures.full (same e)))

pub arms-preserved : goal.arms-preserved
arms-preserved c =
    let left = c.pop.new.self.items in
    let split = c.pop.ensures.items ∙ ap (λ o. left ++ option_to_list o) c.in-Some.is in
    last_taken _ _ _ _ _ left c.in-Some.arm _ c.arms.invariant split c.chosen.new.gates
    c.in_ok-word.word.items
    (sym (ap₂ (λ a b. bitwise_word (mux_gate c.in-Some.arm.condition) a b c.arms.gates)
    c.deref.ensures.value c.deref-in-Some.ensures.value)
    ∙ c.in_ok-word.ensures.made)
    c.in_ok-word.ensures.within c.in_ok-word.ensures.begins
