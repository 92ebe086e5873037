use Rattle.sv_obl.proofs.MadeFacts.{way_makes_settled}
use Rattle.sv_obl.proofs.laws.settled_value_is_made.Goals as goal

pub returns : goal.returns
returns c design sound admitted p at unclocked s own e fits still =
    way_makes_settled design sound admitted p s at own unclocked e fits still
