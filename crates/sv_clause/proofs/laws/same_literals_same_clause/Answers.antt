use Rattle.sv_clause.proofs.SameClause.{same_clause}
use Rattle.sv_clause.proofs.laws.same_literals_same_clause.Goals as goal

pub returns : goal.returns
returns c = same_clause
