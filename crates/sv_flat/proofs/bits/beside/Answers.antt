use Rattle.std.proofs.Common.{sym}
use Rattle.sv_flat.proofs.BitFacts.{nothing_above}
use Rattle.sv_flat.proofs.bits.beside.Goals as goal

pub returns-else-width-lt64 : goal.returns-else-width-lt64
returns-else-width-lt64 c =
    sym (nothing_above c.args.high c.args.low c.args.width c.requires c.if-width-lt64.false)
