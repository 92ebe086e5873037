use Rattle.std.proofs.Common.{ap, ◌∙◌, nat_eq}
use Rattle.sv_flat.proofs.BitFacts.{fits_is}
use Rattle.sv_flat.proofs.typing.fits.Goals as goal

pub returns : goal.returns
returns c =
    ap (λ low. nat_eq low c.args.number) c.low_bits.ensures ∙ fits_is c.args.number c.args.width
