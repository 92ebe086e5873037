use Rattle.std.proofs.Common.{◌∙◌, arith}
use Rattle.sv_token.proofs.NumeralLaws.{not_above, value_whole}
use Rattle.sv_token.proofs.numerals.value_in.Goals as goal

pub returns-in_err-checked_mul : goal.returns-in_err-checked_mul
returns-in_err-checked_mul c =
    let below = not_above c.args.base c.args.digits.now c.loop-byte.byte-index c.requires
    c.loop-byte-test.true c.if-byte-ne95.true in
    let e = rw c.from.ensures at c.in_err-checked_mul.ensures in
    let g = rw c.loop-byte.invariant at e in
    rw c.from_residual.ensures (omega (arith, below, g))

pub returns-in_err-value : goal.returns-in_err-value
returns-in_err-value c =
    let below = not_above c.args.base c.args.digits.now c.loop-byte.byte-index c.requires
    c.loop-byte-test.true c.if-byte-ne95.true in
    rw c.from_residual-in_err-value.ensures (
    let product = rw c.loop-byte.invariant at
    (rw c.from.ensures at c.in_ok-checked_mul.ensures.1) in
    let digit = c.from-then-byte-ne95.ensures ∙ c.digit_value.ensures in
    let large = c.in_err-value.ensures in
    omega (arith, below, product, digit, large))

pub returns : goal.returns
returns c =
    c.loop-byte.invariant
    ∙ value_whole c.args.base c.args.digits.now c.loop-byte.byte-index c.loop-byte-test.false
