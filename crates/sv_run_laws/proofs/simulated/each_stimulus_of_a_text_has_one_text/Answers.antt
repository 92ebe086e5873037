use Rattle.sv_run_laws.proofs.TextLaws.{read_flattened}
use Rattle.sv_run_laws.proofs.TextSimulations.{one_written_text}
use Rattle.sv_run_laws.proofs.simulated.each_stimulus_of_a_text_has_one_text.Goals as goal

pub returns-clause-texts : goal.returns-clause-texts
returns-clause-texts c text asked design can flat admitted =
    one_written_text text asked design can flat admitted c.each_stimulus_has_one_text.ensures

pub returns-clause-bytes : goal.returns-clause-bytes
returns-clause-bytes c bytes text asked design means releases flat admitted =
    one_written_text text asked design (read_flattened bytes text means releases) flat admitted
    c.each_stimulus_has_one_text.ensures
