use Rattle.sv_clause.proofs.Truth.{resolvent_true}
use Rattle.sv_clause.proofs.laws.resolvent_holds_where_both_do.Goals as goal

pub returns : goal.returns
returns c = resolvent_true
