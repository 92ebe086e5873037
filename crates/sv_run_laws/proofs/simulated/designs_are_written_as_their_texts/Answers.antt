use Rattle.sv_run_laws.proofs.TextLaws.{read_flattened}
use Rattle.sv_run_laws.proofs.TextSimulations.{written_alike}
use Rattle.sv_run_laws.proofs.simulated.designs_are_written_as_their_texts.Goals as goal

pub returns-clause-texts : goal.returns-clause-texts
returns-clause-texts c text asked design can flat admitted =
    written_alike text asked design can flat admitted

pub returns-clause-bytes : goal.returns-clause-bytes
returns-clause-bytes c bytes text asked design means releases flat admitted =
    written_alike text asked design (read_flattened bytes text means releases) flat admitted
