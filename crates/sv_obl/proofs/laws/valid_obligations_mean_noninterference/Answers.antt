use Rattle.sv_obl.proofs.GuardedDesigns.{noninterferent}
use Rattle.sv_obl.proofs.laws.valid_obligations_mean_noninterference.Goals as goal

pub returns : goal.returns
returns c facts design checked valid = noninterferent facts design checked valid
