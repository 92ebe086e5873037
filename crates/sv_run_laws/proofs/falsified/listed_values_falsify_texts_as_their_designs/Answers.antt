use Rattle.sv_run_laws.proofs.ListedValues.{listed_alike}
use Rattle.sv_run_laws.proofs.falsified.listed_values_falsify_texts_as_their_designs.Goals as goal

pub returns : goal.returns
returns c text asked design can flat admitted facts listed o fits at =
    listed_alike text asked design can flat admitted facts listed o fits at
