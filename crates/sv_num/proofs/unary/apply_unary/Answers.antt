use Rattle.std.proofs.Common.{◌∙◌, sym, ap}
use Rattle.sv_num.specs.UnaryValues.{unary_value}
use Rattle.sv_num.proofs.NumberLemmas.{negated_is}
use Rattle.sv_num.proofs.BitsLemmas.{negative}
use Rattle.sv_num.proofs.unary.apply_unary.Goals as goal

pub returns-in-Minus-clause-value : goal.returns-in-Minus-clause-value
returns-in-Minus-clause-value c =
    let a = c.args.a in
    let given = rw (c.width.ensures.width, c.value.ensures.value) at c.negated.ensures in
    c.with_value.ensures.value
    ∙ given
    ∙ sym (negated_is a.width (negative a) a.value a.in_range.2)
    ∙ ap (λ op. unary_value op a.width a.signed a.value) (sym c.in-Minus.is)
