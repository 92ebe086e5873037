use Rattle.sv_run_laws.proofs.TextLaws.{valid_noninterferent}
use Rattle.sv_run_laws.proofs.valid_texts_are_noninterferent.Goals as goal

pub returns : goal.returns
returns c text asked design can flat admitted valid =
    valid_noninterferent text asked design can flat admitted valid
