use Rattle.std.proofs.Common.{sym, subst}
use Rattle.sv_token.specs.Lexemes.{placed_tokens}
use Rattle.sv_token.specs.Tokens.{AreTokensOf}
use Rattle.sv_token.proofs.Agreement.{tokens_are_one}
use Rattle.sv_ast.specs.GrammarRules.{TokensMean}
use Rattle.sv_parse.proofs.reader.read_text.Goals as goal

pub returns-clause-only : goal.returns-clause-only
returns-clause-only c other means =
    let bytes = c.args.bytes.now in
    let are = subst (λ ts. AreTokensOf bytes (placed_tokens bytes ts)) (sym c.deref.ensures.value)
    c.in_ok-tokens.ensures.tokens in
    c.in_ok-text.ensures.only other
    (subst (λ ts. TokensMean ts other) (tokens_are_one means.1 are) means.2)
