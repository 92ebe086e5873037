use Rattle.sv_run_laws.proofs.TextLaws.{read_flattened, admitted_one_trace}
use Rattle.sv_run_laws.proofs.admitted_bytes_have_one_trace.Goals as goal

pub returns : goal.returns
returns c bytes text asked design means releases flat admitted =
    admitted_one_trace text asked design (read_flattened bytes text means releases) flat admitted
