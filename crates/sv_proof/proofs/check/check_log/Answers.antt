use Rattle.std.proofs.Common.{◌≡◌, ◌+◌, map, take, arith, subst, sym, ◌∙◌}
use Rattle.std.proofs.lemmas.Grind.{common_steps}
use Rattle.std.proofs.lemmas.Bool.{false≢true}
use Rattle.sv_clause.specs.Logs.{plain_step, plain_log, AllDerived, Refutes}
use Rattle.sv_clause.proofs.Truth.{refuted}
use Rattle.sv_proof.specs.Checking.{IsFirstUnderived}
use Rattle.sv_proof.proofs.Numbers.{first_underived, all_derived_more, all_derived_all}
use Rattle.sv_proof.proofs.check.check_log.Goals as goal

pub returns-then-not-branch-clause-fault : goal.returns-then-not-branch-clause-fault
returns-then-not-branch-clause-fault c =
    let steps = c.as_slice-steps.result.now in
    let is : steps ≡ c.args.log.now.steps.items = c.as_slice-steps.ensures.value in
    subst (λ z. IsFirstUnderived c.args.clauses.now (map plain_step z) c.steps.i) is
    (first_underived c.args.clauses.now steps c.steps.i c.index-steps-i.result (omega arith)
    c.index-steps-i.is
    (subst (λ z. AllDerived c.args.clauses.now (take c.steps.i (map plain_step z))) (sym is)
    c.steps.invariant)
    (λ d. false≢true (sym c.if-not-branch.true ∙ c.in_ok-is_derived.ensures.1 d)))

pub steps-preserved : goal.steps-preserved
steps-preserved c =
    let steps = c.as_slice-steps.result.now in
    let is : steps ≡ c.args.log.now.steps.items = c.as_slice-steps.ensures.value in
    subst (λ z. AllDerived c.args.clauses.now (take (c.steps.i + 1) (map plain_step z))) is
    (all_derived_more c.args.clauses.now steps c.steps.i c.index-steps-i.result (omega arith)
    c.index-steps-i.is
    (subst (λ z. AllDerived c.args.clauses.now (take c.steps.i (map plain_step z))) (sym is)
    c.steps.invariant)
    (c.in_ok-is_derived.ensures.0 c.if-not-branch.false))

pub returns-clause-no_solution : goal.returns-clause-no_solution
returns-clause-no_solution c =
    let refutes : Refutes c.args.clauses.now (plain_log c.args.log.now) =
    record {
      derived = all_derived_all c.args.clauses.now c.args.log.now.steps.items c.steps.i
          (omega arith) c.steps.invariant;
      ends_empty = grind (arith, common_steps);
    } in
    refuted c.args.clauses.now (plain_log c.args.log.now) refutes
