use Rattle.sv_clause.proofs.UnitLaws.{no_earlier}
use Rattle.sv_clause.proofs.laws.new_contains_no_earlier.Goals as goal

pub returns : goal.returns
returns c = no_earlier
