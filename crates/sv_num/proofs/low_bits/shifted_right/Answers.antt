use Rattle.std.proofs.Common.{sym}
use Rattle.sv_num.proofs.NumberLemmas.{shifted_away}
use Rattle.sv_num.proofs.low_bits.shifted_right.Goals as goal

pub returns-else-amount-lt64 : goal.returns-else-amount-lt64
returns-else-amount-lt64 c =
    sym (shifted_away c.args.number c.args.amount c.ranges.number.fits c.if-amount-lt64.false)
