use Rattle.sv_clause.proofs.UnitLaws.{conflict_false}
use Rattle.sv_clause.proofs.laws.unit_conflict_has_no_solution.Goals as goal

pub returns : goal.returns
returns c = conflict_false
