use Rattle.sv_run_laws.proofs.TextLaws.{read_flattened, valid_noninterferent}
use Rattle.sv_run_laws.proofs.valid_bytes_are_noninterferent.Goals as goal

pub returns : goal.returns
returns c bytes text asked design means releases flat admitted valid =
    valid_noninterferent text asked design (read_flattened bytes text means releases) flat admitted
    valid
