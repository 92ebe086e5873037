use Rattle.std.proofs.Common.{◌∙◌, sym, ap}
use Rattle.std.specs.Prelude.{not}
use Rattle.sv_num.specs.Vectors.{number_of}
use Rattle.sv_num.proofs.NumberLemmas.{quotient_same, quotient_other}
use Rattle.sv_num.proofs.BitsLemmas.{below_of, differ, agree}
use Rattle.sv_num.proofs.binary.quotient.Goals as goal

pub returns-then-is_negative-clause-value : goal.returns-then-is_negative-clause-value
returns-then-is_negative-clause-value c =
    let low = rw c.magnitude.ensures.size at c.magnitude.ensures.range in
    let signs = differ c.is_negative.result c.is_negative-2.result c.if-is_negative.true in
    let given = rw (c.width.ensures.width, c.magnitude.ensures.size, c.magnitude-2.ensures.size) at
    c.negated.ensures in
    given
    ∙ sym (quotient_other c.args.a.width (number_of c.args.a) (number_of c.args.b) low
    (below_of c.args.a ∙ sym c.is_negative.ensures ∙ signs
    ∙ ap not (c.is_negative-2.ensures ∙ sym (below_of c.args.b))))

pub returns-else-is_negative-clause-value : goal.returns-else-is_negative-clause-value
returns-else-is_negative-clause-value c =
    let low = rw c.magnitude.ensures.size at c.magnitude.ensures.range in
    let signs = agree c.is_negative.result c.is_negative-2.result c.if-is_negative.false in
    rw (c.magnitude.ensures.size, c.magnitude-2.ensures.size)
    (sym (quotient_same c.args.a.width (number_of c.args.a) (number_of c.args.b) low
    (below_of c.args.a ∙ sym c.is_negative.ensures ∙ signs ∙ c.is_negative-2.ensures
    ∙ sym (below_of c.args.b))))
