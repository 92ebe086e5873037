use Rattle.std.proofs.Common.{◌≡◌, ap, ◌∙◌, sym, subst, rules, ℤ, arith, refl, map, length, Vec, Global, ℕ, vec_len, ◌∷◌, []}
use Rattle.std.specs.Result.{IsErrOf}
use Rattle.std.proofs.lemmas.List.{drop_all, length-map, map-append}
use Rattle.sv_gates.specs.declared.gates.GateFault.TheVariants.{Full}
use Rattle.sv_gates.proofs.ExtendingLaws.{begins_none}
use Rattle.sv_circuits.specs.Words.{Word}
use Rattle.sv_circuits.specs.Operators.{product_rows}
use Rattle.sv_circuits.proofs.WordKeeps.{turn_of}
use Rattle.sv_circuits.proofs.WordKeeps.{word_first}
use Rattle.sv_circuits.proofs.ProductSteps.{RowsAt, rows_more, rows_full, rows_end}
use Rattle.sv_circuits.proofs.multipliers.rows.Goals as goal

abbrev literals : Vec ℤ Global → Word
literals row = row.items

length_is : (rows : Vec (Vec ℤ Global) Global) (n : ℕ) → n ≡ vec_len rows →
    n ≡ length rows.items
length_is rows n e = omega (arith, e, rows.ok.0)

pub rows-init : goal.rows-init
rows-init c =
    rw c.in_ok-rows.ensures.items (record {
      made = refl;
      word = c.requires.a;
      left = c.requires.b;
      done = tt;
      begins = begins_none c.args.gates.now;
    })

pub row-requires-clause-a : goal.row-requires-clause-a
row-requires-clause-a c = c.rows.invariant.word

pub row-requires-clause-b : goal.row-requires-clause-b
row-requires-clause-b c =
    (word_first _ c.rows.invariant.left
    (turn_of c.args.b.now _ _ c.rows-test.true c.bit-item.is))

pub rows-preserved : goal.rows-preserved
rows-preserved c =
    let turn = turn_of c.args.b.now _ _ c.rows-test.true c.bit-item.is in
    let i : c.len.result ≡ length (map literals c.rows.rows.items) =
    length_is c.rows.rows c.len.result c.len.ensures
    ∙ sym (length-map c.rows.rows.items literals) in
    let made = rw i
    at c.in_ok-row.ensures.made in
    let items = ap (map literals) c.in_ok-append_row.ensures
    ∙ map-append literals c.rows.rows.items (c.in_ok-row.row ∷ []) in
    subst (RowsAt (product_rows c.args.a.now 0 c.args.b.now c.args.gates.now) c.args.gates.now
    _ c.args.a.now _) (sym items)
    (rows_more _ _ _ _ _ _ _ (map literals c.rows.rows.items) _ _ c.rows.invariant turn made
    c.in_ok-row.ensures.begins c.in_ok-row.ensures.within)

pub returns-in_err-row-clause-full : goal.returns-in_err-row-clause-full
returns-in_err-row-clause-full c =
    let same : IsErrOf c.from_residual-in_err-row.result Full → IsErrOf c.row.result Full =
    search rules in
    let i : c.len.result ≡ length (map literals c.rows.rows.items) =
    length_is c.rows.rows c.len.result c.len.ensures
    ∙ sym (length-map c.rows.rows.items literals) in
    let full = rw i
    at c.row.ensures.full in
    λ e. rows_full _ _ _ _ _ _ (map literals c.rows.rows.items) _ _ c.rows.invariant
    (turn_of c.args.b.now _ _ c.rows-test.true c.bit-item.is) (full (same e))

pub returns-clause-made : goal.returns-clause-made
returns-clause-made c =
    rows_end _ _ _ _ _ _ c.rows.invariant
    (drop_all c.rows.bit-index c.args.b.now c.rows-test.false)

pub returns-clause-within : goal.returns-clause-within
returns-clause-within c = c.rows.invariant.done
