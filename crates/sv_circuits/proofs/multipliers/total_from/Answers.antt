use Rattle.std.proofs.Common.{ap, ◌∙◌, ◌+◌, sym, subst, rules, ℤ, map, drop, Vec, Global, ◌∷◌}
use Rattle.std.specs.Result.{IsErrOf}
use Rattle.std.proofs.lemmas.List.{drop_more, drop_all}
use Rattle.sv_gates.specs.declared.gates.GateFault.TheVariants.{Full}
use Rattle.sv_gates.proofs.ExtendingLaws.{begins_none}
use Rattle.sv_circuits.specs.Words.{Word}
use Rattle.sv_circuits.specs.Operators.{total_from}
use Rattle.sv_circuits.specs.Circuits.{IsWord}
use Rattle.sv_circuits.specs.Rows.{AreWords}
use Rattle.sv_circuits.proofs.ProductSteps.{total_more, total_full}
use Rattle.sv_circuits.proofs.multipliers.total_from.Goals as goal

abbrev literals : Vec ℤ Global → Word
literals row = row.items

pub rows-init : goal.rows-init
rows-init c = record {
  made = ap (λ z. total_from z (map literals c.args.rows.now) c.args.gates.now)
      (sym c.in_ok-made.ensures);
  word = subst (IsWord c.args.gates.now.variables) (sym c.in_ok-made.ensures) c.requires.total;
  left = c.requires.rows;
  begins = begins_none c.args.gates.now;
}

pub sum-requires-clause-a : goal.sum-requires-clause-a
sum-requires-clause-a c =
    subst (IsWord c.rows.gates.variables) (sym c.deref.ensures.value) c.rows.invariant.word

pub sum-requires-clause-b : goal.sum-requires-clause-b
sum-requires-clause-b c =
    let turn = ap (map literals)
    (drop_more c.args.rows.now c.rows.row-index c.row-item.result c.rows-test.true)
    ∙ ap (λ z. literals z ∷ map literals (drop (c.rows.row-index + 1) c.args.rows.now))
    (sym c.row-item.is) in
    subst (IsWord c.rows.gates.variables) (sym c.deref-in-rows.ensures.value)
    (subst (AreWords c.rows.gates.variables) turn c.rows.invariant.left).0

pub rows-preserved : goal.rows-preserved
rows-preserved c =
    let turn = ap (map literals)
    (drop_more c.args.rows.now c.rows.row-index c.row-item.result c.rows-test.true)
    ∙ ap (λ z. literals z ∷ map literals (drop (c.rows.row-index + 1) c.args.rows.now))
    (sym c.row-item.is) in
    let made = rw (c.deref.ensures.value, c.deref-in-rows.ensures.value)
    at c.in_ok-made-2.ensures.made in
    total_more _ _ _ _ _ _ _ _ _ c.rows.invariant turn made c.in_ok-made-2.ensures.begins
    c.in_ok-made-2.ensures.within

pub returns-in_err-made-2-clause-full : goal.returns-in_err-made-2-clause-full
returns-in_err-made-2-clause-full c =
    let same : IsErrOf c.from_residual-in_err-made-2.result Full → IsErrOf c.sum.result Full =
    search rules in
    let turn = ap (map literals)
    (drop_more c.args.rows.now c.rows.row-index c.row-item.result c.rows-test.true)
    ∙ ap (λ z. literals z ∷ map literals (drop (c.rows.row-index + 1) c.args.rows.now))
    (sym c.row-item.is) in
    let full = rw (c.deref.ensures.value, c.deref-in-rows.ensures.value) at c.sum.ensures.full in
    λ e. total_full _ _ _ _ _ _ _ _ c.rows.invariant turn (full (same e))

pub returns-clause-made : goal.returns-clause-made
returns-clause-made c =
    c.rows.invariant.made
    ∙ ap (λ z. total_from c.rows.made.items (map literals z) c.rows.gates)
    (drop_all c.rows.row-index c.args.rows.now c.rows-test.false)

pub returns-clause-within : goal.returns-clause-within
returns-clause-within c = c.rows.invariant.word
