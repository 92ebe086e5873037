use Rattle.sv_run_laws.proofs.TextLaws.{read_flattened}
use Rattle.sv_compare.proofs.TextFindings.{one_text_finding}
use Rattle.sv_compare.proofs.laws.each_pair_of_stimuli_has_one_finding.Goals as goal

pub returns-clause-texts : goal.returns-clause-texts
returns-clause-texts c text asked design can flat admitted level first second held =
    one_text_finding text asked design can flat admitted level first second held

pub returns-clause-bytes : goal.returns-clause-bytes
returns-clause-bytes c bytes text asked design means releases flat admitted level first second
    held =
    one_text_finding text asked design (read_flattened bytes text means releases) flat admitted
    level first second held
