use Rattle.sv_gates.proofs.GateLaws.{and_has, or_has, xor_has, mux_has}
use Rattle.sv_gates.proofs.laws.gates_have_their_values.Goals as goal

pub returns-clause-and : goal.returns-clause-and
returns-clause-and c = and_has

pub returns-clause-or : goal.returns-clause-or
returns-clause-or c = or_has

pub returns-clause-xor : goal.returns-clause-xor
returns-clause-xor c = xor_has

pub returns-clause-mux : goal.returns-clause-mux
returns-clause-mux c = mux_has
