use Rattle.sv_obl.proofs.GuardedDesigns.{noninterferent_plain}
use Rattle.sv_obl.proofs.laws.valid_designs_are_noninterferent.Goals as goal

pub returns : goal.returns
returns c design checked valid = noninterferent_plain design checked valid
