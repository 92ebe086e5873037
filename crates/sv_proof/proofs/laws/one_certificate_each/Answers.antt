use Rattle.sv_proof.proofs.Again.{same_text}
use Rattle.sv_proof.proofs.laws.one_certificate_each.Goals as goal

pub returns : goal.returns
returns c = same_text
