use Rattle.sv_token.specs.Lexemes.{placed_tokens}
use Rattle.sv_parse_expr.proofs.ReadingExpressions.{literal_is}
use Rattle.sv_parse_expr.proofs.Halting.{passed}
use Rattle.sv_parse_expr.proofs.ReadingRuns.{number_is_there}
use Rattle.sv_parse_expr.proofs.expressions.read_literal.Goals as goal

pub returns-clause-is : goal.returns-clause-is
returns-clause-is c =
    λ bytes. literal_is c.args.room.levels _ c.in_ok-value.place _ _
    (c.in_ok-value.ensures.is bytes)

pub returns-in_err-value-clause-halts : goal.returns-in_err-value-clause-halts
returns-in_err-value-clause-halts c = λ bytes start same comes.
    passed _ _ _ c.from_residual.ensures.1
    (number_is_there _ (placed_tokens bytes c.args.tokens.now) _ _ _ comes
    (c.in_err-value.ensures.stops bytes))
