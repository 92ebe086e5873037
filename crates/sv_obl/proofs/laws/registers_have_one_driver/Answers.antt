use Rattle.sv_obl.proofs.MadeFacts.{register_driver}
use Rattle.sv_obl.proofs.laws.registers_have_one_driver.Goals as goal

pub returns : goal.returns
returns c design sound admitted s of_kind =
    register_driver design sound admitted s of_kind
