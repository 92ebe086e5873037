use Rattle.std.proofs.Common.{◌∙◌, sym}
use Rattle.sv_num.specs.Vectors.{number_of}
use Rattle.sv_num.proofs.NumberLemmas.{remainder_above, remainder_below}
use Rattle.sv_num.proofs.BitsLemmas.{below_of}
use Rattle.sv_num.proofs.binary.remainder.Goals as goal

pub returns-then-is_negative-clause-value : goal.returns-then-is_negative-clause-value
returns-then-is_negative-clause-value c =
    let low = rw c.magnitude.ensures.size at c.magnitude.ensures.range in
    let given = rw (c.width.ensures.width, c.magnitude.ensures.size, c.magnitude-2.ensures.size) at
    c.negated.ensures in
    given
    ∙ sym (remainder_below c.args.a.width (number_of c.args.a) (number_of c.args.b) low
    (below_of c.args.a ∙ sym c.is_negative.ensures ∙ c.if-is_negative.true))

pub returns-else-is_negative-clause-value : goal.returns-else-is_negative-clause-value
returns-else-is_negative-clause-value c =
    let low = rw c.magnitude.ensures.size at c.magnitude.ensures.range in
    rw (c.magnitude.ensures.size, c.magnitude-2.ensures.size)
    (sym (remainder_above c.args.a.width (number_of c.args.a) (number_of c.args.b) low
    (below_of c.args.a ∙ sym c.is_negative.ensures ∙ c.if-is_negative.false)))
