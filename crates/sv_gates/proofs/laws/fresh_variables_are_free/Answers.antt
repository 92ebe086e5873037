use Rattle.sv_gates.proofs.ExtendingLaws.{fresh_extends}
use Rattle.sv_gates.proofs.laws.fresh_variables_are_free.Goals as goal

pub returns : goal.returns
returns c = fresh_extends
