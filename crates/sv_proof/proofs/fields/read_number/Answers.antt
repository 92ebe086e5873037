use Rattle.std.proofs.Common.{rules, ◌≤◌, get_or, length, arith, sym, ◌∙◌}
use Rattle.std.proofs.lemmas.Bool.{eqb-true, eq-eqb, false≢true}
use Rattle.sv_proof.proofs.Digits.{none_empty, none_leading, none_other, none_large, number_is}
use Rattle.sv_proof.proofs.Digits.{digits_so_far}
use Rattle.sv_proof.proofs.fields.read_number.Goals as goal

pub returns-then-is_empty-clause-none : goal.returns-then-is_empty-clause-none
returns-then-is_empty-clause-none c =
    λ none n small e. none_empty c.args.word.now n
    (eqb-true (length c.args.word.now) 0 (sym c.is_empty.ensures ∙ c.if-is_empty.true)) small e

pub returns-then-has_leading_zero-clause-none : goal.returns-then-has_leading_zero-clause-none
returns-then-has_leading_zero-clause-none c =
    λ none n small e. let zero = c.has_leading_zero.ensures.0 c.if-has_leading_zero.true in
    none_leading c.args.word.now n zero.0 zero.1 small e

pub returns-then-not-is_ascii_digit-clause-none : goal.returns-then-not-is_ascii_digit-clause-none
returns-then-not-is_ascii_digit-clause-none c =
    λ none n small e. none_other c.args.word.now c.digits.byte-index n (omega arith) (λ low high.
    absurd (grind (arith, c.if-not-is_ascii_digit.ensures.cases))) small e

pub returns-then-value-digit-clause-none : goal.returns-then-value-digit-clause-none
returns-then-value-digit-clause-none c =
    let byte = get_or c.args.word.now c.digits.byte-index 0 in
    let k = c.if-not-is_ascii_digit.ensures.cases in
    let low : 48 ≤ byte = search rules in
    let high : byte ≤ 57 = search rules in
    λ none n small e. none_large c.args.word.now c.digits.byte-index c.digits.value n (omega arith)
    low high c.digits.invariant.0 c.digits.invariant.1 (omega arith) small e

pub digits-preserved : goal.digits-preserved
digits-preserved c =
    let byte = get_or c.args.word.now c.digits.byte-index 0 in
    let low : 48 ≤ byte = search rules in
    let high : byte ≤ 57 = search rules in
    digits_so_far c.args.word.now c.digits.byte-index c.digits.value (omega arith) low high
    c.digits.invariant.0 c.digits.invariant.1

pub returns-clause-some : goal.returns-clause-some
returns-clause-some c =
    number_is c.args.word.now c.digits.byte-index c.digits.value (omega arith)
    (λ empty. false≢true (sym c.if-is_empty.false
    ∙ (c.is_empty.ensures ∙ eq-eqb (length c.args.word.now) 0 empty)))
    (λ zero long. false≢true (sym c.if-has_leading_zero.false
    ∙ c.has_leading_zero.ensures.1 (zero, long)))
    c.digits.invariant.0 c.digits.invariant.1 (search rules)
