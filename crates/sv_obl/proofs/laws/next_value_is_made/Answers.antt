use Rattle.sv_obl.proofs.MadeFacts.{makes_next}
use Rattle.sv_obl.proofs.laws.next_value_is_made.Goals as goal

pub returns : goal.returns
returns c design sound admitted p at clock s own e =
    makes_next design sound admitted p s at own clock e
