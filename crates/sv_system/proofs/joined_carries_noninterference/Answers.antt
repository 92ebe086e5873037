use Rattle.sv_system.proofs.JoinedViews.{joined_noninterferent}
use Rattle.sv_system.proofs.joined_carries_noninterference.Goals as goal

pub returns : goal.returns
returns g c = joined_noninterferent
