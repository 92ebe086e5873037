use Rattle.std.proofs.Common.{◌≡◌, false, ◌∙◌, ap, sym, take, drop, ◌-◌, arith}
use Rattle.std.proofs.lemmas.List.{take_rest}
use Rattle.sv_token.specs.Bytes.{next_is}
use Rattle.sv_token.specs.Numerals.{begins_fraction, spoils_decimal, value_in}
use Rattle.sv_token.proofs.NumeralLaws.{decimal_is, decimal_plain, too_large}
use Rattle.sv_token.proofs.numerals.decimal_at.Goals as goal

pub returns-in-Some : goal.returns-in-Some
returns-in-Some c =
    let same = decimal_is c.args.bytes.now c.args.count c.requires.some c.requires.within in
    let whole : begins_fraction (drop c.args.count c.args.bytes.now) ≡ false =
    ap begins_fraction (sym (take_rest c.args.bytes.now c.args.count))
    ∙ sym c.begins_fraction.ensures ∙ c.if-begins_fraction.false in
    let clean : next_is spoils_decimal (drop c.args.count c.args.bytes.now) ≡ false =
    ap (next_is spoils_decimal) (sym (take_rest c.args.bytes.now c.args.count))
    ∙ sym c.is_spoiled.ensures ∙ c.if-not-is_spoiled.true in
    let plain = same ∙ decimal_plain (value_in 10 (take c.args.count c.args.bytes.now))
    (c.args.count - 1) (drop c.args.count c.args.bytes.now) whole clean
    (let small = c.if-value.true in let is = c.in-Some.ensures in omega (arith, small, is)) in
    rw (
      c.of_type-bits.ensures.width,
      c.of_type-bits.ensures.signed,
      c.of_type-bits.ensures.value,
      c.in-Some.ensures,
    ) (sym plain)

pub returns-in_default-2 : goal.returns-in_default-2
returns-in_default-2 c =
    sym (too_large c.args.bytes.now c.args.count c.begins_fraction.result c.requires.some
    c.requires.within c.begins_fraction.ensures c.if-begins_fraction.false
    (let large = c.if-value.false in let is = c.in-Some.ensures in omega (arith, large, is)))

pub returns-in_default-3 : goal.returns-in_default-3
returns-in_default-3 c =
    sym (too_large c.args.bytes.now c.args.count c.begins_fraction.result c.requires.some
    c.requires.within c.begins_fraction.ensures c.if-begins_fraction.false
    (let large = c.in_default.ensures in omega (arith, large)))
