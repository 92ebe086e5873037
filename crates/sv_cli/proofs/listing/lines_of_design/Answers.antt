use Rattle.std.proofs.Common.{refl}
use Rattle.sv_cli.proofs.listing.lines_of_design.Goals as goal

pub returns-in-Ok : goal.returns-in-Ok
returns-in-Ok c = (refl, c.in-Ok.ensures.excess)
