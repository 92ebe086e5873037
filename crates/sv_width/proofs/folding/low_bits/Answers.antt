use Rattle.sv_num.proofs.NumberLemmas.{low_mask}
use Rattle.sv_width.proofs.folding.low_bits.Goals as goal

pub returns : goal.returns
returns c = low_mask c.args.number c.args.width c.requires.few
