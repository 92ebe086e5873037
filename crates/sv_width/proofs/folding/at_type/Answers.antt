use Rattle.std.proofs.Common.{◌%◌, ◌^◌, ◌≤◌, ap, ◌∙◌, arith}
use Rattle.sv_width.proofs.Wholes.{cut_number}
use Rattle.sv_width.proofs.folding.at_type.Goals as goal

pub returns-then-to-width-clause-value : goal.returns-then-to-width-clause-value
returns-then-to-width-clause-value c =
    let less : c.args.to.width ≤ c.args.bits.width =
    omega (arith, c.if-to-width.true, c.width.ensures.width) in
    c.of_type.ensures.value ∙ c.low_bits.ensures
    ∙ ap (λ v. v % 2 ^ c.args.to.width) c.value.ensures.value
    ∙ cut_number c.args.bits.width c.args.to.width c.args.to.signed c.args.bits.value less
