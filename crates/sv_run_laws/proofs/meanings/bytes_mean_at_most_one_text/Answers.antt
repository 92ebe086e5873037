use Rattle.sv_parse_machine.proofs.OneText.{one_meaning}
use Rattle.sv_run_laws.proofs.meanings.bytes_mean_at_most_one_text.Goals as goal

pub returns : goal.returns
returns c bytes one other means means_too = one_meaning bytes one other means means_too
