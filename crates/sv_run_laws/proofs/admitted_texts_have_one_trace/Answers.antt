use Rattle.sv_run_laws.proofs.TextLaws.{admitted_one_trace}
use Rattle.sv_run_laws.proofs.admitted_texts_have_one_trace.Goals as goal

pub returns : goal.returns
returns c text asked design can flat admitted =
    admitted_one_trace text asked design can flat admitted
