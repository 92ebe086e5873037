use Rattle.sv_elab_laws.proofs.SoundWritten.{text_lengths, text_fits}
use Rattle.sv_elab_laws.proofs.soundness.written_numbers_have_lengths.Goals as goal

pub returns-clause-lengths : goal.returns-clause-lengths
returns-clause-lengths c text = text_lengths text

pub returns-clause-fits : goal.returns-clause-fits
returns-clause-fits c text = text_fits text
