use Rattle.sv_decide.proofs.SpentSize.{spent_short}
use Rattle.sv_decide.proofs.laws.spent_logs_are_shorter_than_all_clauses.Goals as goal

pub returns : goal.returns
returns c variables budget clauses steps of spent =
    spent_short variables budget clauses steps of spent
