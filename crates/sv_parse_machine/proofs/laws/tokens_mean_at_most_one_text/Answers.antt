use Rattle.sv_parse_machine.proofs.OneText.{one_text}
use Rattle.sv_parse_machine.proofs.laws.tokens_mean_at_most_one_text.Goals as goal

pub returns : goal.returns
returns c tokens one other is is_too = one_text tokens one other is is_too
