use Rattle.std.proofs.Common.{◌≡◌, ap, ◌∙◌, rules, ℤ, arith, refl}
use Rattle.std.specs.Slice.Iter.{iter_rest}
use Rattle.std.specs.Iterator.Adapters.{zip_first, zip_second}
use Rattle.std.specs.Result.{IsErrOf}
use Rattle.sv_gates.specs.Formulas.{Formula}
use Rattle.sv_gates.specs.declared.gates.GateFault.TheVariants.{Full}
use Rattle.sv_gates.proofs.ExtendingLaws.{begins_trans}
use Rattle.sv_circuits.proofs.WordKeeps.{literal_up, word_first, zip_ends}
use Rattle.sv_circuits.proofs.LoopSteps.{loop_start, both_more, left_full}
use Rattle.sv_circuits.proofs.TestSteps.{same_whole, same_step, same_full, same_end}
use Rattle.sv_circuits.proofs.comparators.equal_after.Goals as goal

pub bits-init : goal.bits-init
bits-init c =
    let first : iter_rest (zip_first c.into_iter-x-iterator.result) ≡ c.args.a.now = search rules in
    let second : iter_rest (zip_second c.into_iter-x-iterator.result) ≡ c.args.b.now = search rules in
    (loop_start _ _ _ _ _ _ _ _ _ c.requires.a c.requires.b first second refl
    (c.requires.before, tt) (same_whole _ _ _ _ c.args.before _ first second))

pub same-requires-clause-a : goal.same-requires-clause-a
same-requires-clause-a c = word_first _ c.bits.invariant.first c.in-Some.ensures.steps.0

pub same-requires-clause-b : goal.same-requires-clause-b
same-requires-clause-b c = word_first _ c.bits.invariant.second c.in-Some.ensures.steps.1

pub and_gate-requires-clause-a : goal.and_gate-requires-clause-a
and_gate-requires-clause-a c =
    literal_up _ _ c.bits.equal c.in_ok-test.ensures.begins.grows c.bits.invariant.hand.0

pub and_gate-requires-clause-b : goal.and_gate-requires-clause-b
and_gate-requires-clause-b c =
    c.in_ok-test.ensures.within

pub bits-preserved : goal.bits-preserved
bits-preserved c =
    (both_more _ _ _ _ _ _ _ _ _ _ _ _ _ _ _ c.bits.invariant
    c.in-Some.ensures.steps.0 c.in-Some.ensures.steps.1
    (same_step _ _ _ _ _ _ _ _ _ _ _ _ c.in-Some.ensures.steps.0 c.in-Some.ensures.steps.1
    c.in_ok-test.ensures.made c.in_ok-equal.ensures.made)
    (begins_trans _ _ _ c.in_ok-test.ensures.begins c.in_ok-equal.ensures.begins)
    (c.in_ok-equal.ensures.within, tt))

pub returns-in_err-test-clause-full : goal.returns-in_err-test-clause-full
returns-in_err-test-clause-full c =
    let same : IsErrOf c.from_residual.result Full → IsErrOf c.same.result Full =
    search rules in
    λ e. left_full c.bits.invariant
    (same_full _ _ _ _ _ c.in-Some.x.now c.in-Some.y.now _ _
    c.in-Some.ensures.steps.0 c.in-Some.ensures.steps.1
    (omega (arith, (c.same.ensures.full).0 (same e))))

pub returns-in_err-equal-clause-full : goal.returns-in_err-equal-clause-full
returns-in_err-equal-clause-full c =
    let same : IsErrOf c.from_residual-in_err-equal.result Full → IsErrOf c.and_gate.result Full =
    search rules in
    λ e. left_full c.bits.invariant
    (same_full _ _ _ _ _ c.in-Some.x.now c.in-Some.y.now _ _
    c.in-Some.ensures.steps.0 c.in-Some.ensures.steps.1
    (omega (
      arith,
      (c.and_gate.ensures.full).0 (same e),
      ap (λ (z : Formula × ℤ). (z.0).variables) c.in_ok-test.ensures.made,
    )))

pub returns-clause-made : goal.returns-clause-made
returns-clause-made c =
    c.bits.invariant.made ∙ same_end _ _ _ _ (zip_ends _ _ c.in-None.ensures.steps)

pub returns-clause-within : goal.returns-clause-within
returns-clause-within c = c.bits.invariant.hand.0
