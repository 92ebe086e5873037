use Rattle.sv_clause.proofs.Truth.{refuted}
use Rattle.sv_clause.proofs.laws.refuted_has_no_solution.Goals as goal

pub returns : goal.returns
returns c = refuted
