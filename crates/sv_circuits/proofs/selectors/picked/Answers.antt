use Rattle.std.proofs.Common.{◌≡◌, ap, ◌∙◌, sym, rules, ℤ, arith, refl, take, length, ◌∷◌, []}
use Rattle.std.specs.Result.{IsErrOf}
use Rattle.std.proofs.lemmas.List.{drop_all}
use Rattle.sv_gates.specs.Formulas.{Formula}
use Rattle.sv_gates.specs.Gates.{false_literal}
use Rattle.sv_gates.specs.declared.gates.GateFault.TheVariants.{Full}
use Rattle.sv_gates.proofs.ExtendingLaws.{begins_none, begins_trans}
use Rattle.sv_circuits.specs.Operators.{picked_from, number_count}
use Rattle.sv_circuits.proofs.WordKeeps.{turn_of}
use Rattle.sv_circuits.proofs.WordKeeps.{literal_up, word_first, word_take}
use Rattle.sv_circuits.proofs.LoopSteps.{one_more, left_full}
use Rattle.sv_circuits.proofs.ShiftSteps.{take_at}
use Rattle.sv_circuits.proofs.PickSteps.{picked_step, picked_full, picked_end}
use Rattle.sv_circuits.proofs.selectors.picked.Goals as goal

pub bits-init : goal.bits-init
bits-init c =
    let near : take c.number_count-count.result c.args.word.now
    ≡ take (number_count (length c.args.index.now) c.args.signed) c.args.word.now =
    take_at (number_count (length c.args.index.now) c.args.signed) c.number_count-count.result
    c.args.word.now c.number_count-count.ensures in (
      record {
        made = ap (λ z. picked_from c.args.index.now false_literal 0 z c.args.gates.now) (sym near)
            ∙ ap (λ z. picked_from c.args.index.now z 0
            (take c.number_count-count.result c.args.word.now) c.args.gates.now)
            (sym c.falsity-found.ensures.value);
        first = word_take c.args.gates.now.variables c.number_count-count.result c.args.word.now c.requires.word;
        second = c.requires.index;
        front = tt;
        hand = (c.falsity-found.ensures.within, tt);
        begins = begins_none c.args.gates.now;
      },
      refl,
    )

pub equal_number-requires : goal.equal_number-requires
equal_number-requires c = c.bits.invariant.0.second

pub mux_gate-requires-clause-c : goal.mux_gate-requires-clause-c
mux_gate-requires-clause-c c =
    c.in_ok-here.ensures.within

pub mux_gate-requires-clause-a : goal.mux_gate-requires-clause-a
mux_gate-requires-clause-a c =
    (literal_up _ _ c.bit-item.result c.in_ok-here.ensures.begins.grows
    (word_first _ c.bits.invariant.0.first
    (turn_of (take c.number_count-count.result c.args.word.now) _ _ c.bits-test.true c.bit-item.is)))

pub mux_gate-requires-clause-b : goal.mux_gate-requires-clause-b
mux_gate-requires-clause-b c =
    literal_up _ _ c.bits.found c.in_ok-here.ensures.begins.grows
    c.bits.invariant.0.hand.0

pub bits-preserved : goal.bits-preserved
bits-preserved c =
    let turn = turn_of (take c.number_count-count.result c.args.word.now) _ _ c.bits-test.true
    c.bit-item.is in
    let next = one_more _ _ _ _ _ c.mux_gate.new.self _ _ _ _ _ (c.in_ok-found.found ∷ []) _
    c.bits.invariant.0 turn
    (picked_step c.args.index.now _ _ c.bits.found _ c.in_ok-here.here
    c.in_ok-found.found c.bits.j c.bits.gates c.equal_number.new.gates c.mux_gate.new.self turn
    c.in_ok-here.ensures.made c.in_ok-found.ensures.made)
    (begins_trans _ _ _ c.in_ok-here.ensures.begins c.in_ok-found.ensures.begins)
    (c.in_ok-found.ensures.within, tt) in
    (next, omega (arith, c.bits.invariant.1))

pub returns-in_err-here-clause-full : goal.returns-in_err-here-clause-full
returns-in_err-here-clause-full c =
    let same : IsErrOf c.from_residual.result Full → IsErrOf c.equal_number.result Full =
    search rules in
    λ e. left_full c.bits.invariant.0
    (picked_full c.args.index.now _ _ c.bits.found _ c.bits.j c.bits.gates _
    (turn_of (take c.number_count-count.result c.args.word.now) _ _ c.bits-test.true c.bit-item.is) (omega (arith, c.equal_number.ensures.full (same e))))

pub returns-in_err-found-clause-full : goal.returns-in_err-found-clause-full
returns-in_err-found-clause-full c =
    let same : IsErrOf c.from_residual-in_err-found.result Full → IsErrOf c.mux_gate.result Full =
    search rules in
    let made = ap (λ (z : Formula × ℤ). (z.0).variables) c.in_ok-here.ensures.made in
    λ e. left_full c.bits.invariant.0
    (picked_full c.args.index.now _ _ c.bits.found _ c.bits.j c.bits.gates _
    (turn_of (take c.number_count-count.result c.args.word.now) _ _ c.bits-test.true c.bit-item.is) (omega (arith, (c.mux_gate.ensures.full).0 (same e), made)))

pub returns-clause-made : goal.returns-clause-made
returns-clause-made c =
    (c.bits.invariant.0).made ∙ picked_end c.args.index.now _ _ c.bits.j c.bits.gates
    (drop_all c.bits.bit-index (take c.number_count-count.result c.args.word.now)
    c.bits-test.false)

pub returns-clause-within : goal.returns-clause-within
returns-clause-within c = c.bits.invariant.0.hand.0
