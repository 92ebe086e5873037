use Rattle.sv_system.proofs.Orders.{enough_rounds_settle}
use Rattle.sv_system.proofs.scheduled_rounds_settle.Goals as goal

pub returns : goal.returns
returns g c = enough_rounds_settle
