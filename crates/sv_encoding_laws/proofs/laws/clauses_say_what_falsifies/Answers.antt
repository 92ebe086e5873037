use Rattle.sv_encoding_laws.proofs.Directions.{both_ways}
use Rattle.sv_encoding_laws.proofs.laws.clauses_say_what_falsifies.Goals as goal

pub returns : goal.returns
returns c = both_ways
