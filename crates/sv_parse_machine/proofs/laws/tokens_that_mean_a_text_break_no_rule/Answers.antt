use Rattle.sv_ast.proofs.GrammarLaws.{meaning_breaks_no_rule}
use Rattle.sv_parse_machine.proofs.laws.tokens_that_mean_a_text_break_no_rule.Goals as goal

pub returns : goal.returns
returns c tokens text mean number names place stop breaks =
    meaning_breaks_no_rule tokens text number names place stop mean breaks
