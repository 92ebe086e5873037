use Rattle.std.proofs.Common.{length, ◌∙◌, sym, arith}
use Rattle.std.proofs.lemmas.Bool.{eqb-false}
use Rattle.sv_token.proofs.NumeralLaws.{are_digits}
use Rattle.sv_token.proofs.numerals.are_digits_in.Goals as goal

pub returns-then-not-is_empty : goal.returns-then-not-is_empty
returns-then-not-is_empty c =
    let some = eqb-false (length c.args.digits.now) 0 (sym c.is_empty.ensures
    ∙ c.if-not-is_empty.true) in
    are_digits c.args.base c.args.digits.now c.are_below.result (omega (arith, some))
    c.are_below.ensures
