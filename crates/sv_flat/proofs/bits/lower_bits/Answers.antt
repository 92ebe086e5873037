use Rattle.sv_flat.proofs.BitFacts.{lower_fits}
use Rattle.sv_flat.proofs.bits.lower_bits.Goals as goal

pub beside-requires : goal.beside-requires
beside-requires c = rw (c.low_bits.ensures, c.low_bits-2.ensures)
    (lower_fits c.args.high c.args.low c.args.value c.args.piece c.requires.order c.requires.inside)
