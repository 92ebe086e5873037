use Rattle.sv_proof.proofs.DerivedSteps.{is_writable}
use Rattle.sv_proof.proofs.laws.derived_logs_are_writable.Goals as goal

pub returns : goal.returns
returns c = is_writable
