use Rattle.std.proofs.Common.{◌≡◌, ◌≤◌, ◌^◌, ap, ◌∙◌, sym, subst, rules, arith, refl, length, ◌∷◌, []}
use Rattle.std.specs.Result.{IsErrOf}
use Rattle.std.proofs.lemmas.List.{drop_all}
use Rattle.sv_gates.specs.declared.gates.GateFault.TheVariants.{Full}
use Rattle.sv_gates.proofs.ExtendingLaws.{begins_none}
use Rattle.sv_circuits.specs.Operators.{shifted_from}
use Rattle.sv_circuits.specs.Circuits.{IsWord}
use Rattle.sv_circuits.specs.Moves.{move_of}
use Rattle.sv_circuits.proofs.WordKeeps.{turn_of}
use Rattle.sv_circuits.proofs.LoopSteps.{left_full}
use Rattle.sv_circuits.proofs.ShiftSteps.{move_least, move_within, shift_step, shift_full, shift_end}
use Rattle.sv_circuits.proofs.ShiftSteps.{shift_more, twice}
use Rattle.sv_circuits.proofs.shifters.shifted.Goals as goal
use Rattle.sv_circuits.proofs.shifters.shifted.Goals.{In_ok-moved}

pub amount-init : goal.amount-init
amount-init c = (
  record {
    made = ap (λ z. shifted_from (move_of c.args.direction c.args.fill) 0 c.args.amount.now z
        c.args.gates.now) (sym c.in_ok-made.ensures);
    first = c.requires.amount;
    second = tt;
    front = subst (IsWord c.args.gates.now.variables) (sym c.in_ok-made.ensures)
        c.requires.word;
    hand = (c.requires.fill, tt);
    begins = begins_none c.args.gates.now;
  },
  refl,
)

-- what is moved, by a number of bits that may stand for more
moved_is : (c : In_ok-moved) → c.in_ok-moved.moved.items
    ≡ move_of c.args.direction c.args.fill (2 ^ c.amount.bit-index) c.amount.made.items
moved_is c =
    let small : length c.amount.made.items ≤ 18446744073709551615 = search rules in
    c.in_ok-moved.ensures ∙ ap (move_of c.args.direction c.args.fill c.amount.by) c.deref.ensures.value
    ∙ move_least c.args.direction c.args.fill c.amount.by (2 ^ c.amount.bit-index)
    c.amount.made.items (omega (arith, small, c.amount.invariant.1))

moved_fits : (c : In_ok-moved) →
    IsWord c.amount.gates.variables c.in_ok-moved.moved.items
moved_fits c =
    subst (IsWord c.amount.gates.variables) (sym (moved_is c))
    (move_within c.amount.gates.variables c.args.direction c.args.fill (2 ^ c.amount.bit-index)
    c.amount.made.items c.amount.invariant.0.hand.0 c.amount.invariant.0.front)

pub chosen-requires-clause-a : goal.chosen-requires-clause-a
chosen-requires-clause-a c =
    subst (IsWord c.amount.gates.variables) (sym c.deref-in-amount.ensures.value)
    (moved_fits (goal.at.chosen-requires-clause-a c).In_ok-moved)

pub amount-preserved : goal.amount-preserved
amount-preserved c =
    let at = c.amount.invariant.0 in
    let turn = turn_of c.args.amount.now _ _ c.amount-test.true c.bit-item.is in
    let made = rw (c.deref-in-amount.ensures.value, c.deref-in-amount-2.ensures.value)
    at c.in_ok-made-2.ensures.made in
    let next = shift_more _ _ _ _ _ c.chosen.new.gates _ _ _ c.in_ok-made-2.made.items
    (c.args.fill ∷ []) _ at turn
    (shift_step (move_of c.args.direction c.args.fill) c.amount.bit-index _ _
    c.amount.made.items c.in_ok-moved.moved.items c.in_ok-made-2.made.items _ c.amount.gates
    c.chosen.new.gates turn (moved_is (goal.at.amount-preserved c).In_ok-moved) made)
    c.in_ok-made-2.ensures.begins c.in_ok-made-2.ensures.within in (
      next,
      twice c.amount.bit-index c.amount.by _ c.amount.invariant.1
          c.saturating_mul-by.ensures,
    )

pub returns-in_err-made-2-clause-full : goal.returns-in_err-made-2-clause-full
returns-in_err-made-2-clause-full c =
    let same : IsErrOf c.from_residual-in_err-made-2.result Full → IsErrOf c.chosen.result Full =
    search rules in
    let at = c.amount.invariant.0 in
    let turn = turn_of c.args.amount.now _ _ c.amount-test.true c.bit-item.is in
    let full = rw (c.deref-in-amount.ensures.value, c.deref-in-amount-2.ensures.value)
    at c.chosen.ensures.full in
    λ e. left_full at
    (shift_full (move_of c.args.direction c.args.fill) c.amount.bit-index _ _
    c.amount.made.items c.in_ok-moved.moved.items _ c.amount.gates _ turn
    (moved_is (goal.at.returns-in_err-made-2-clause-full c).In_ok-moved) (full (same e)))

pub returns-clause-made : goal.returns-clause-made
returns-clause-made c =
    c.amount.invariant.0.made ∙ shift_end (move_of c.args.direction c.args.fill) c.amount.bit-index _
    c.amount.made.items c.amount.gates (drop_all c.amount.bit-index c.args.amount.now
    c.amount-test.false)
