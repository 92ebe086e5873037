use Rattle.sv_report.proofs.OneText.{one_text}
use Rattle.sv_report.proofs.laws.each_failure_has_one_text.Goals as goal

pub returns : goal.returns
returns c = one_text
