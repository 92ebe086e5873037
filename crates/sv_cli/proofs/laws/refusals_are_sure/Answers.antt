use Rattle.sv_cli.proofs.Refusals.{sure_refusals}
use Rattle.sv_cli.proofs.laws.refusals_are_sure.Goals as goal

pub returns : goal.returns
returns c = sure_refusals c.each_dialogue_has_one_answer.ensures
