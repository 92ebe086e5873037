use Rattle.sv_token.specs.Lexemes.{placed_tokens}
use Rattle.sv_ast.specs.Views.{text_tree}
use Rattle.sv_parse_machine.proofs.OneText.{one_text}
use Rattle.sv_parse_machine.proofs.ShapedTexts.{text_is_shaped}
use Rattle.sv_parse.proofs.parser.parse.Goals as goal

pub returns-in-Ok-clause-only : goal.returns-in-Ok-clause-only
returns-in-Ok-clause-only c other means =
    one_text (placed_tokens c.args.bytes.now c.args.tokens.now) other (text_tree c.in-Ok.text) means
    c.in-Ok.ensures.is

pub returns-in-Ok-clause-shaped : goal.returns-in-Ok-clause-shaped
returns-in-Ok-clause-shaped c =
    text_is_shaped (placed_tokens c.args.bytes.now c.args.tokens.now) c.in-Ok.text
    c.in-Ok.ensures.is
