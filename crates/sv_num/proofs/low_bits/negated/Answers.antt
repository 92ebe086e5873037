use Rattle.std.proofs.Common.{◌∙◌}
use Rattle.sv_num.proofs.NumberLemmas.{low_negated}
use Rattle.sv_num.proofs.low_bits.negated.Goals as goal

pub returns : goal.returns
returns c =
    c.low_bits.ensures ∙ low_negated c.args.width c.args.number c.wrapping_neg.result c.requires.few
    c.requires.low c.wrapping_neg.ensures
