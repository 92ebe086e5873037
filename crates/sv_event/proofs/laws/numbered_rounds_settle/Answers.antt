use Rattle.sv_event.proofs.RoundFacts.{numbered_rounds_settle}
use Rattle.sv_event.proofs.laws.numbered_rounds_settle.Goals as goal

pub returns : goal.returns
returns c design is = numbered_rounds_settle design is.is_sound is.is_admitted
