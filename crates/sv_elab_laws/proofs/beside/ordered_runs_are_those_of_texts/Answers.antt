use Rattle.sv_elab_laws.proofs.JoinedOrdered.{rounds_of_text}
use Rattle.sv_elab_laws.proofs.beside.ordered_runs_are_those_of_texts.Goals as goal

pub returns : goal.returns
returns c text asked design can flat admitted = rounds_of_text text asked design can flat admitted
