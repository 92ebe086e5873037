use Rattle.std.proofs.Common.{◌≡◌, ◌+◌, length, map, refl, ap, ◌∙◌, ◌++◌, ◌∷◌, [], arith}
use Rattle.std.proofs.lemmas.List.{map_push, length_push}
use Rattle.sv_clause.specs.Logs.{plain_step}
use Rattle.sv_proof.specs.Reading.{IsStepLine}
use Rattle.sv_proof.proofs.Following.{no_next_unended, no_next_wrong, rest_shorter, step_added}
use Rattle.sv_proof.proofs.Beginning.{fault_at_step}
use Rattle.sv_proof.proofs.read.read_steps.Goals as goal

pub returns-in_default-clause-fault : goal.returns-in_default-clause-fault
returns-in_default-clause-fault c =
    fault_at_step c.args.bytes.now c.steps.rest.now (map plain_step c.steps.steps.items) c.args.count
    c.args.first c.steps.done c.steps.invariant.0 c.steps.invariant.1 c.steps-test.true
    (no_next_unended IsStepLine c.steps.rest.now (c.in_default.ensures.none refl))

pub returns-in_default-2-clause-fault : goal.returns-in_default-2-clause-fault
returns-in_default-2-clause-fault c =
    let none = rw c.in_default-2.is at c.in_ok-step.ensures.none in
    fault_at_step c.args.bytes.now c.steps.rest.now (map plain_step c.steps.steps.items) c.args.count
    c.args.first c.steps.done c.steps.invariant.0 c.steps.invariant.1 c.steps-test.true
    (no_next_wrong IsStepLine c.steps.rest.now c.in-Some.text.now c.in-Some.after.now
    c.in-Some.ensures.some.0 c.in-Some.ensures.some.1 (λ (s, w, is). none refl s w is))

pub steps-preserved : goal.steps-preserved
steps-preserved c =
    let is = rw c.in-Some-2.is at c.in_ok-step.ensures.some in
    let writable = rw c.in-Some-2.is at c.in_ok-step.ensures.writable in
    let step = plain_step c.in-Some-2.step in
    let steps = map plain_step c.steps.steps.items in
    let now : map plain_step c.append.new.items.items ≡ steps ++ step ∷ [] =
    ap (map plain_step) c.in_ok-append.ensures
    ∙ map_push plain_step c.steps.steps.items c.in-Some-2.step in
    let shorter = rest_shorter c.steps.rest.now c.in-Some.text.now c.in-Some.after.now
    c.in-Some.ensures.some.0 in
    let more : length (map plain_step c.append.new.items.items) ≡ length steps + 1 =
    ap length now ∙ length_push steps step in (
      step_added c.args.bytes.now c.steps.rest.now c.in-Some.text.now c.in-Some.after.now steps
          (map plain_step c.append.new.items.items) step c.steps.invariant.0 c.in-Some.ensures.some.0
          is writable now,
      omega (arith, c.steps.invariant.1),
      omega arith,
      omega (arith, c.steps.invariant.3),
    )
