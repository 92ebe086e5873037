use Rattle.sv_flat.proofs.FlatScheduled.{flat_is_scheduled}
use Rattle.sv_flat.proofs.laws.admitted_designs_are_scheduled.Goals as goal

pub returns : goal.returns
returns c design sound admitted = flat_is_scheduled design sound admitted
