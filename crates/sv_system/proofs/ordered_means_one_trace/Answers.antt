use Rattle.sv_system.proofs.OneTrace.{one_trace}
use Rattle.sv_system.proofs.ordered_means_one_trace.Goals as goal

pub returns : goal.returns
returns g c = one_trace
