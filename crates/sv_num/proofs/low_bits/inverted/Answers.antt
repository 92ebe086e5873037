use Rattle.std.proofs.Common.{◌∙◌}
use Rattle.sv_num.proofs.NumberLemmas.{low_inverted}
use Rattle.sv_num.proofs.low_bits.inverted.Goals as goal

pub returns : goal.returns
returns c =
    c.low_bits.ensures ∙ low_inverted c.args.width c.args.number c.requires.few c.requires.low
