use Rattle.sv_parse_machine.proofs.Decisions.{means_or_breaks}
use Rattle.sv_parse_machine.proofs.laws.tokens_mean_a_text_or_break_a_rule.Goals as goal

pub returns : goal.returns
returns c tokens stop = means_or_breaks tokens stop
