use Rattle.std.proofs.Common.{[], ◌∷◌, refl}
use Rattle.sv_token.specs.declared.signs.SignKind.TheVariants as signs
use Rattle.sv_parse_machine.specs.Symbols.{outer, punctuation, plain_name}
use Rattle.sv_parse_machine.proofs.ReadSteps.{reads_before}
use Rattle.sv_parse_expr.proofs.Halting.{passed, stops_before}
use Rattle.sv_parse_expr.proofs.ReadingRuns.{then_read, then_stop}
use Rattle.sv_parse_stmt.proofs.closed.read_closed_name.Goals as goal

pub returns-clause-is : goal.returns-clause-is
returns-clause-is c = (_, c.in_ok-name.ensures.is, c.in_ok-rest.ensures.is c.args.input.bytes.now)

pub returns-in_err-name-clause-halts : goal.returns-in_err-name-clause-halts
returns-in_err-name-clause-halts c =
    passed _ _ _ c.from_residual.ensures.1
    (stops_before (outer plain_name ∷ []) (outer (punctuation signs.CloseParenthesis) ∷ []) _ _
    c.in_err-name.ensures.halts)

pub returns-in_err-rest-clause-halts : goal.returns-in_err-rest-clause-halts
returns-in_err-rest-clause-halts c =
    passed _ _ _ c.from_residual-in_err-rest.ensures.1
    (then_stop _ (outer (punctuation signs.CloseParenthesis) ∷ []) [] _ _ _
    (reads_before (outer plain_name ∷ []) [] (outer (punctuation signs.CloseParenthesis) ∷ []) _ _
    c.in_ok-name.ensures.reads)
    (c.in_err-rest.ensures.halts c.args.input.bytes.now))

pub returns-clause-reads : goal.returns-clause-reads
returns-clause-reads c =
    then_read _ (outer (punctuation signs.CloseParenthesis) ∷ []) [] _ _ _
    (reads_before (outer plain_name ∷ []) [] (outer (punctuation signs.CloseParenthesis) ∷ []) _ _
    c.in_ok-name.ensures.reads)
    (c.in_ok-rest.ensures.reads c.args.input.bytes.now refl)
