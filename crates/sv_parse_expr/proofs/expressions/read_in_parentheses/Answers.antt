use Rattle.std.proofs.Common.{[], ◌∷◌, refl}
use Rattle.sv_token.specs.Lexemes.{placed_tokens}
use Rattle.sv_token.specs.declared.signs.SignKind.TheVariants as signs
use Rattle.sv_parse_machine.specs.Symbols.{outer, expression, punctuation}
use Rattle.sv_parse_machine.proofs.ReadSteps.{reads_before}
use Rattle.sv_parse_expr.proofs.Halting.{passed, stops_then, stops_before}
use Rattle.sv_parse_expr.proofs.ReadingRuns.{then_read}
use Rattle.sv_parse_expr.proofs.expressions.read_in_parentheses.Goals as goal

pub returns-clause-is : goal.returns-clause-is
returns-clause-is c =
    let bytes = c.args.input.bytes.now in (
      placed_tokens bytes c.in_ok-rest.rest.now,
      c.in_ok-rest.ensures.is bytes,
      (
        placed_tokens bytes c.in_ok-expr.rest.now,
        c.in_ok-expr.ensures.is,
        c.in_ok-rest-2.ensures.is bytes,
      ),
    )

pub returns-in_err-rest-clause-halts : goal.returns-in_err-rest-clause-halts
returns-in_err-rest-clause-halts c =
    passed _ _ _ c.from_residual.ensures.1
    (stops_before (outer (punctuation signs.OpenParenthesis) ∷ [])
    (outer (expression c.args.levels) ∷ outer (punctuation signs.CloseParenthesis) ∷ []) _ _
    (c.in_err-rest.ensures.halts c.args.input.bytes.now))

pub returns-in_err-rest-2-clause-halts : goal.returns-in_err-rest-2-clause-halts
returns-in_err-rest-2-clause-halts c =
    let open_first = outer (punctuation signs.OpenParenthesis) ∷ [] in
    let expr = outer (expression c.args.levels) ∷ [] in
    let close_last = outer (punctuation signs.CloseParenthesis) ∷ [] in
    passed _ _ _ c.from_residual-in_err-rest-2.ensures.1
    (stops_then _ close_last _ _ _
    (then_read _ expr close_last _ _ _
    (reads_before open_first [] (outer (expression c.args.levels) ∷ close_last) _ _
    (c.in_ok-rest.ensures.reads c.args.input.bytes.now refl))
    c.in_ok-expr.ensures.reads)
    (c.in_err-rest-2.ensures.halts c.args.input.bytes.now))
