use Rattle.std.proofs.Common.{◌∙◌, ◌%◌, rules, refl, sym, subst}
use Rattle.std.specs.Prelude.{◌==◌}
use Rattle.sv_gates.specs.Formulas.{IsLiteral}
use Rattle.std.specs.Result.{IsErrOf}
use Rattle.std.proofs.lemmas.List.{drop_all}
use Rattle.sv_gates.specs.declared.gates.GateFault.TheVariants.{Full}
use Rattle.sv_circuits.proofs.WordKeeps.{turn_of}
use Rattle.sv_circuits.proofs.WordKeeps.{word_first, test_within}
use Rattle.sv_circuits.proofs.LoopSteps.{loop_start, one_more, left_full}
use Rattle.sv_circuits.proofs.TestSteps.{number_step, number_full, number_end}
use Rattle.sv_circuits.proofs.comparators.equal_number_after.Goals as goal

pub bits-init : goal.bits-init
bits-init c =
    (loop_start _ _ _ _ _ _ _ _ _ c.requires.word tt refl refl refl (c.requires.before, tt) refl)

pub and_gate-requires-clause-a : goal.and_gate-requires-clause-a
and_gate-requires-clause-a c = c.bits.invariant.hand.0

pub and_gate-requires-clause-b : goal.and_gate-requires-clause-b
and_gate-requires-clause-b c =
    subst (IsLiteral c.bits.gates.variables) (sym c.number_test-test.ensures)
    (test_within _ (c.bits.left % 2 == 1) c.bit-item.result
    (word_first _ c.bits.invariant.first
    (turn_of c.args.word.now _ _ c.bits-test.true c.bit-item.is)))

pub bits-preserved : goal.bits-preserved
bits-preserved c =
    let turn = turn_of c.args.word.now _ _ c.bits-test.true c.bit-item.is in
    (one_more _ _ _ _ _ _ _ _ _ _ _ _ _ c.bits.invariant turn
    (number_step _ _ _ _ _ _ _ _ _ _ turn refl c.number_test-test.ensures c.in_ok-equal.ensures.made)
    c.in_ok-equal.ensures.begins (c.in_ok-equal.ensures.within, tt))

pub returns-in_err-equal-clause-full : goal.returns-in_err-equal-clause-full
returns-in_err-equal-clause-full c =
    let same : IsErrOf c.from_residual.result Full → IsErrOf c.and_gate.result Full = search rules in
    λ e. left_full c.bits.invariant
    (number_full _ _ _ _ _ _ _
    (turn_of c.args.word.now _ _ c.bits-test.true c.bit-item.is)
    ((c.and_gate.ensures.full).0 (same e)))

pub returns-clause-made : goal.returns-clause-made
returns-clause-made c =
    c.bits.invariant.made ∙ number_end _ _ _ _ (drop_all c.bits.bit-index c.args.word.now c.bits-test.false)

pub returns-clause-within : goal.returns-clause-within
returns-clause-within c = c.bits.invariant.hand.0
