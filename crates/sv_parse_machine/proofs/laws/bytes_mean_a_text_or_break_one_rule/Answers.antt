use Rattle.sv_parse_machine.proofs.Syntax.{text_breaks_nothing, one_syntax_rule, text_or_rule}
use Rattle.sv_parse_machine.proofs.OneText.{one_meaning}
use Rattle.sv_parse_machine.proofs.laws.bytes_mean_a_text_or_break_one_rule.Goals as goal

pub returns-clause-means_or_breaks : goal.returns-clause-means_or_breaks
returns-clause-means_or_breaks c bytes = text_or_rule bytes

pub returns-clause-never_both : goal.returns-clause-never_both
returns-clause-never_both c bytes text means number names place breaks =
    text_breaks_nothing bytes text means number names place breaks

pub returns-clause-one_text : goal.returns-clause-one_text
returns-clause-one_text c bytes one other means means_too =
    one_meaning bytes one other means means_too

pub returns-clause-one_rule : goal.returns-clause-one_rule
returns-clause-one_rule c bytes number other names others place elsewhere first second =
    one_syntax_rule bytes number other names others place elsewhere first second
