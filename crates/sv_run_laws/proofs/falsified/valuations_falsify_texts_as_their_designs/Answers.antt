use Rattle.sv_run_laws.proofs.FalsifiedTexts.{falsified_alike}
use Rattle.sv_run_laws.proofs.falsified.valuations_falsify_texts_as_their_designs.Goals as goal

pub returns : goal.returns
returns c text asked design can flat admitted facts v o at =
    falsified_alike text asked design can flat admitted facts v o at
