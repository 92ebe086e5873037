use Rattle.sv_obl.proofs.MadeFacts.{way_is_made}
use Rattle.sv_obl.proofs.laws.wanted_names_make_the_same.Goals as goal

pub returns : goal.returns
returns c design sound admitted p at s own quiet e =
    way_is_made design sound admitted p s at own quiet e
