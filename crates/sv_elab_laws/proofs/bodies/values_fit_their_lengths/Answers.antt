use Rattle.sv_elab_laws.proofs.ValuesLow.{value_low}
use Rattle.sv_elab_laws.proofs.bodies.values_fit_their_lengths.Goals as goal

pub returns : goal.returns
returns c scope environment e n signed fits = value_low scope environment e n signed fits
