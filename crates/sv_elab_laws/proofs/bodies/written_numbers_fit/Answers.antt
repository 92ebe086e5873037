use Rattle.sv_elab_laws.proofs.WrittenNumbers.{selectors_fit}
use Rattle.sv_elab_laws.proofs.bodies.written_numbers_fit.Goals as goal

pub returns : goal.returns
returns c s = selectors_fit s
