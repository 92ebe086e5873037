use Rattle.sv_gates.proofs.GateLaws.{unit_has}
use Rattle.sv_gates.proofs.laws.units_are_true.Goals as goal

pub returns : goal.returns
returns c = unit_has
