use Rattle.sv_event.proofs.RoundFacts.{quiet_is_settled}
use Rattle.sv_event.proofs.laws.quiet_is_settled.Goals as goal

pub returns : goal.returns
returns c design is = quiet_is_settled design is.is_sound is.is_admitted
