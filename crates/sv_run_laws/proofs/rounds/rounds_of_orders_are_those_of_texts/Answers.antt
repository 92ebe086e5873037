use Rattle.sv_run_laws.proofs.OwnRounds.{own_rounds}
use Rattle.sv_run_laws.proofs.rounds.rounds_of_orders_are_those_of_texts.Goals as goal

pub returns : goal.returns
returns c text asked design can flat admitted order bytes rounds =
    own_rounds text asked design can flat admitted order bytes rounds
