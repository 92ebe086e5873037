use Rattle.sv_tworun.proofs.OneFinding.{one_finding}
use Rattle.sv_tworun.proofs.laws.findings_are_one.Goals as goal

pub returns : goal.returns
returns g c system level first second one other is again =
    one_finding system level first second one other is again
