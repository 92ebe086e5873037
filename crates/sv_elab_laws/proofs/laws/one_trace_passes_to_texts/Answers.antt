use Rattle.sv_ast.specs.TextSystem.{text_system}
use Rattle.sv_flat.specs.FlatSystem.{flat_system}
use Rattle.sv_system.proofs.JoinedTraces.{joined_one_trace}
use Rattle.sv_elab_laws.proofs.JoinedWhole.{flattened_joined}
use Rattle.sv_elab_laws.proofs.laws.one_trace_passes_to_texts.Goals as goal

pub returns : goal.returns
returns c text asked design can flat admitted =
    joined_one_trace (flat_system design) (text_system text asked)
    (flattened_joined text asked design can flat admitted)
