use Rattle.sv_system.proofs.JoinedTraces.{joined_one_trace}
use Rattle.sv_system.proofs.joined_carries_one_trace.Goals as goal

pub returns : goal.returns
returns g c = joined_one_trace
