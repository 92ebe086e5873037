use Rattle.sv_obl.proofs.MadeFacts.{combinational_driver}
use Rattle.sv_obl.proofs.laws.combinational_signals_have_one_driver.Goals as goal

pub returns : goal.returns
returns c design sound admitted s of_kind =
    combinational_driver design sound admitted s of_kind
