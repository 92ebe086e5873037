use Rattle.sv_clause.specs.Logs.{clauses_of}
use Rattle.sv_solve.proofs.Knowing.{conflict_more}
use Rattle.sv_decide.proofs.laws.units_are_never_spent.Goals as goal

pub returns : goal.returns
returns c budget clauses steps literals conflict spent =
    spent.no_conflict literals (conflict_more clauses (clauses_of steps) literals conflict)
