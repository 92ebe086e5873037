use Rattle.sv_run_laws.proofs.TextLaws.{read_flattened}
use Rattle.sv_run_laws.proofs.texts_of_bytes_can_be_flattened.Goals as goal

pub returns : goal.returns
returns c bytes text means releases = read_flattened bytes text means releases
