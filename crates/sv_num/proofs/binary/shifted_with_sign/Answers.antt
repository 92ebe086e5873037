use Rattle.std.proofs.Common.{◌∙◌, sym, ap, true, false}
use Rattle.std.specs.Int.{int_shr}
use Rattle.sv_num.specs.Vectors.{reduced}
use Rattle.sv_num.proofs.NumberLemmas.{shift_above, shift_below}
use Rattle.sv_num.proofs.BitsLemmas.{number_when}
use Rattle.sv_num.proofs.binary.shifted_with_sign.Goals as goal

pub returns-then-is_negative-clause-value : goal.returns-then-is_negative-clause-value
returns-then-is_negative-clause-value c =
    let a = c.args.a in
    let given =
    rw (
      c.width-then-is_negative.ensures.width,
      c.shifted_right-shifted.ensures,
      c.inverted.ensures,
      c.width.ensures.width,
      c.value.ensures.value,
    ) at
    c.inverted-then-is_negative.ensures in
    given
    ∙ sym (shift_below a.width a.value c.args.amount a.in_range.2)
    ∙ ap (λ z. reduced a.width (int_shr z c.args.amount))
    (sym (number_when a true (sym c.is_negative.ensures ∙ c.if-is_negative.true)))

pub returns-else-is_negative-clause-value : goal.returns-else-is_negative-clause-value
returns-else-is_negative-clause-value c =
    let a = c.args.a in
    let given = rw c.value-else-is_negative.ensures.value at c.shifted_right.ensures in
    given
    ∙ sym (shift_above a.width a.value c.args.amount a.in_range.2)
    ∙ ap (λ z. reduced a.width (int_shr z c.args.amount))
    (sym (number_when a false (sym c.is_negative.ensures ∙ c.if-is_negative.false)))
