use Rattle.sv_judge.proofs.NeverSpent.{units_not_spent}
use Rattle.sv_judge.proofs.laws.unit_conflicts_decide.Goals as goal

pub returns : goal.returns
returns c design budget number steps units spent =
    units_not_spent design budget number steps spent units
