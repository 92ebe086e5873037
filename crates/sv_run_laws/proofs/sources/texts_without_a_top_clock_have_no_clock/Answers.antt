use Rattle.sv_run_laws.proofs.TextTopClocks.{text_top_clock}
use Rattle.sv_run_laws.proofs.sources.texts_without_a_top_clock_have_no_clock.Goals as goal

pub returns : goal.returns
returns c text asked design shaped numbers lengths flat admitted =
    text_top_clock text asked design shaped numbers lengths flat admitted
