use Rattle.sv_obl.proofs.TakenPaths.{one_is_taken}
use Rattle.sv_obl.proofs.laws.exactly_one_path_is_taken.Goals as goal

pub returns : goal.returns
returns c design checked p at target assigned environment fits still =
    one_is_taken design checked p target at assigned environment fits still
