use Rattle.sv_sim_run.proofs.OneText.{has_one_text}
use Rattle.sv_sim_run.proofs.laws.each_stimulus_has_one_text.Goals as goal

pub returns : goal.returns
returns c design is = has_one_text design is
