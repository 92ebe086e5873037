use Rattle.sv_encoding_laws.proofs.Directions.{unmet_is_valid}
use Rattle.sv_encoding_laws.proofs.laws.unmet_clauses_mean_valid.Goals as goal

pub returns : goal.returns
returns c = unmet_is_valid
