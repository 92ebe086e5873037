use Rattle.sv_sim.proofs.OneDesign.{design_has_one_trace}
use Rattle.sv_sim.proofs.laws.admitted_designs_have_one_trace.Goals as goal

pub returns : goal.returns
returns c design is = design_has_one_trace design is.is_sound is.is_admitted
