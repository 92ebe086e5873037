use Rattle.std.proofs.Common.{◌∙◌, sym}
use Rattle.sv_num.proofs.BitsLemmas.{size_of}
use Rattle.sv_num.proofs.vectors.Bits.magnitude.Goals as goal

pub returns-then-is_negative-clause-size : goal.returns-then-is_negative-clause-size
returns-then-is_negative-clause-size c =
    c.negated.ensures ∙ size_of c.args.self (sym c.is_negative.ensures ∙ c.if-is_negative.true)
