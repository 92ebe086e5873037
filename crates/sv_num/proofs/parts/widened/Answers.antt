use Rattle.std.proofs.Common.{◌^◌, ◌≤◌, ◌∙◌, sym, ap, true, false, arith}
use Rattle.std.proofs.lemmas.Nat.{pow_pos}
use Rattle.std.proofs.Math.Pow.{pow_mono}
use Rattle.sv_num.specs.Vectors.{reduced}
use Rattle.sv_num.proofs.NumberLemmas.{wider_above, wider_below}
use Rattle.sv_num.proofs.BitsLemmas.{number_when}
use Rattle.sv_num.proofs.parts.widened.Goals as goal

pub inverted-requires-then-is_negative-clause-low :
    goal.inverted-requires-then-is_negative-clause-low
inverted-requires-then-is_negative-clause-low c =
    let more : 2 ^ c.args.a.width ≤ 2 ^ c.args.width = pow_mono c.requires.wider in
    rw (c.inverted.ensures, c.width.ensures.width) (omega (arith, pow_pos c.args.a.width))

pub returns-then-is_negative-clause-value : goal.returns-then-is_negative-clause-value
returns-then-is_negative-clause-value c =
    let a = c.args.a in
    let given = rw (c.inverted.ensures, c.width.ensures.width, c.value.ensures.value) at
    c.inverted-then-is_negative.ensures in
    given
    ∙ sym (wider_below a.width c.args.width a.value c.requires.wider a.in_range.2)
    ∙ ap (reduced c.args.width)
    (sym (number_when a true (sym c.is_negative.ensures ∙ c.if-is_negative.true)))

pub returns-else-is_negative-clause-value : goal.returns-else-is_negative-clause-value
returns-else-is_negative-clause-value c =
    let a = c.args.a in
    c.value-else-is_negative.ensures.value
    ∙ sym (wider_above a.width c.args.width a.value c.requires.wider a.in_range.2)
    ∙ ap (reduced c.args.width)
    (sym (number_when a false (sym c.is_negative.ensures ∙ c.if-is_negative.false)))

pub returns-else-is_negative-clause-low : goal.returns-else-is_negative-clause-low
returns-else-is_negative-clause-low c =
    let more : 2 ^ c.args.a.width ≤ 2 ^ c.args.width = pow_mono c.requires.wider in
    omega (arith, c.value-else-is_negative.ensures.range)
