use Rattle.sv_ast.specs.TextSystem.{text_system}
use Rattle.sv_flat.specs.FlatSystem.{flat_system}
use Rattle.sv_system.proofs.JoinedViews.{joined_noninterferent}
use Rattle.sv_elab_laws.proofs.JoinedWhole.{flattened_joined}
use Rattle.sv_elab_laws.proofs.laws.noninterference_passes_to_texts.Goals as goal

pub returns : goal.returns
returns c text asked design can flat admitted =
    joined_noninterferent (flat_system design) (text_system text asked)
    (flattened_joined text asked design can flat admitted)
