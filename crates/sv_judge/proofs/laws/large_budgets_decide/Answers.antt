use Rattle.sv_judge.proofs.NeverSpent.{large_not_spent}
use Rattle.sv_judge.proofs.laws.large_budgets_decide.Goals as goal

pub returns : goal.returns
returns c design budget number most steps checked few large spent =
    large_not_spent design budget number steps spent most checked few large
