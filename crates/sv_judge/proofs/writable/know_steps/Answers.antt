use Rattle.std.proofs.Common.{◌<◌, ◌^◌, ℕ, List, All, subst, arith}
use Rattle.std.proofs.lemmas.List.{take_all}
use Rattle.std.proofs.lemmas.List.Elements.{All-more, All-map}
use Rattle.sv_clause.specs.Logs.{plain_step}
use Rattle.sv_clause.specs.declared.logs.Derived.{Derived}
use Rattle.sv_judge.specs.Writable.{IsTyped}
use Rattle.sv_judge.proofs.writable.know_steps.Goals as goal

pub steps-preserved : goal.steps-preserved
steps-preserved c =
    let Typed : Derived → Type 0 = λ d. IsTyped (plain_step d) in
    let typed : Typed c.step-item.result =
    record {
      clause = c.literals-literals.ensures.normal;
      numbers =
          subst (λ (ns : List ℕ). All (λ n. n < 2 ^ 64) ns) c.deref.ensures.value
          c.know_numbers.ensures;
    } in
    All-more Typed c.args.steps.now c.steps.step-index c.step-item.result (omega arith)
    c.steps.invariant (subst Typed c.step-item.is typed)

pub returns : goal.returns
returns c =
    let Typed : Derived → Type 0 = λ d. IsTyped (plain_step d) in
    All-map IsTyped plain_step c.args.steps.now
    (subst (All Typed) (take_all c.steps.step-index c.args.steps.now (omega arith))
    c.steps.invariant)
