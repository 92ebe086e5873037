use Rattle.sv_elab_laws.proofs.JoinedWhole.{flattened_joined}
use Rattle.sv_elab_laws.proofs.laws.flat_designs_do_what_their_texts_mean.Goals as goal

pub returns : goal.returns
returns c text asked design can flat admitted =
    flattened_joined text asked design can flat admitted
