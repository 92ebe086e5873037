use Rattle.std.proofs.Common.{sym}
use Rattle.sv_flat.proofs.BitFacts.{masked, whole_word}
use Rattle.sv_flat.proofs.bits.low_bits.Goals as goal

pub returns-then-width-lt64 : goal.returns-then-width-lt64
returns-then-width-lt64 c = masked c.args.value c.args.width c.if-width-lt64.true

pub returns-else-width-lt64 : goal.returns-else-width-lt64
returns-else-width-lt64 c =
    sym (whole_word c.args.value c.args.width c.ranges.value.fits c.if-width-lt64.false)
