use Rattle.std.proofs.Common.{sym}
use Rattle.sv_flat.proofs.BitFacts.{shifted_out}
use Rattle.sv_flat.proofs.bits.shifted.Goals as goal

pub returns-else-amount-lt64 : goal.returns-else-amount-lt64
returns-else-amount-lt64 c =
    sym (shifted_out c.args.value c.args.amount c.ranges.value.fits c.if-amount-lt64.false)
