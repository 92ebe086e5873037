use Rattle.sv_flat.proofs.BitFacts.{replaced_fits, fits_in_word}
use Rattle.sv_flat.proofs.bits.replaced_bits.Goals as goal

pub beside-requires : goal.beside-requires
beside-requires c =
    rw (c.shifted-above.ensures, c.from.ensures, c.low_bits.ensures, c.lower_bits.ensures)
    (fits_in_word c.args.width _ c.requires.few
    (replaced_fits c.args.high c.args.low c.args.value c.args.piece c.requires.order c.args.width
    c.requires.inside))

pub returns-clause-range : goal.returns-clause-range
returns-clause-range c =
    rw (
      c.beside.ensures,
      c.shifted-above.ensures,
      c.from.ensures,
      c.low_bits.ensures,
      c.lower_bits.ensures,
    )
    (replaced_fits c.args.high c.args.low c.args.value c.args.piece c.requires.order c.args.width
    c.requires.inside)
