use Rattle.sv_obl.proofs.MadeFacts.{way_makes_from_reads}
use Rattle.sv_obl.proofs.laws.made_values_come_from_reads.Goals as goal

pub returns : goal.returns
returns c design sound admitted p at s own e f same =
    way_makes_from_reads design sound admitted p s at own e f same
