use Rattle.sv_parse_machine.proofs.OneRule.{one_rule}
use Rattle.sv_parse_machine.proofs.laws.tokens_break_one_rule.Goals as goal

pub returns : goal.returns
returns c number other names others place elsewhere stop tokens first second =
    one_rule number other names others place elsewhere stop tokens first second
