use Rattle.sv_gates.proofs.GateLaws.{and_makes, or_makes, xor_makes, mux_makes}
use Rattle.sv_gates.proofs.laws.gates_extend.Goals as goal

pub returns-clause-and : goal.returns-clause-and
returns-clause-and c = λ a b old closed is_a is_b. (and_makes a b old closed is_a is_b).extends

pub returns-clause-or : goal.returns-clause-or
returns-clause-or c = λ a b old closed is_a is_b. (or_makes a b old closed is_a is_b).extends

pub returns-clause-xor : goal.returns-clause-xor
returns-clause-xor c = λ a b old closed is_a is_b. (xor_makes a b old closed is_a is_b).extends

pub returns-clause-mux : goal.returns-clause-mux
returns-clause-mux c =
    λ c a b old closed is_c is_a is_b. (mux_makes c a b old closed is_c is_a is_b).extends
