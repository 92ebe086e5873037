use Rattle.sv_obl.proofs.TakenPaths.{gives_next}
use Rattle.sv_obl.proofs.laws.taken_path_gives_next_value.Goals as goal

pub returns : goal.returns
returns c design checked p at clock target assigned environment fits path taken =
    gives_next design checked p target at assigned environment fits path taken clock
