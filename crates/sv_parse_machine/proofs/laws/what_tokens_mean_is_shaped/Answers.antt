use Rattle.sv_parse_machine.proofs.ShapedTexts.{text_is_shaped}
use Rattle.sv_parse_machine.proofs.laws.what_tokens_mean_is_shaped.Goals as goal

pub returns : goal.returns
returns c tokens text is = text_is_shaped tokens text is
