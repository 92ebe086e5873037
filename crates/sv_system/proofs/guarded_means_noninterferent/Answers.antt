use Rattle.sv_system.proofs.Noninterference.{noninterference}
use Rattle.sv_system.proofs.guarded_means_noninterferent.Goals as goal

pub returns : goal.returns
returns g c = noninterference
