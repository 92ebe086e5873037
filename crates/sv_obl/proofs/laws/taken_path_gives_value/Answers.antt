use Rattle.sv_obl.proofs.TakenPaths.{gives_value}
use Rattle.sv_obl.proofs.laws.taken_path_gives_value.Goals as goal

pub returns : goal.returns
returns c design checked p at unclocked target assigned environment fits still path taken =
    gives_value design checked p target at assigned environment fits path taken unclocked still
