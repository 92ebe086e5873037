use Rattle.sv_system.proofs.Orders.{rest_is_settled}
use Rattle.sv_system.proofs.scheduled_rest_is_settled.Goals as goal

pub returns : goal.returns
returns g c = rest_is_settled
