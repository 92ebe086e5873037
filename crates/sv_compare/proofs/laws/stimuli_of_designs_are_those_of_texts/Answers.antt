use Rattle.sv_run_laws.proofs.TextLaws.{read_flattened}
use Rattle.sv_compare.proofs.TextFindings.{same_form}
use Rattle.sv_compare.proofs.laws.stimuli_of_designs_are_those_of_texts.Goals as goal

pub returns-clause-texts : goal.returns-clause-texts
returns-clause-texts c text asked design can flat admitted =
    same_form text asked design can flat admitted

pub returns-clause-bytes : goal.returns-clause-bytes
returns-clause-bytes c bytes text asked design means releases flat admitted =
    same_form text asked design (read_flattened bytes text means releases) flat admitted
