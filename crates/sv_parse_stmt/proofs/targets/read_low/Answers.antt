use Rattle.std.proofs.Common.{[], ◌∷◌, refl}
use Rattle.sv_token.specs.declared.signs.SignKind.TheVariants as signs
use Rattle.sv_parse_machine.specs.Symbols.{outer, punctuation, expression, bits_end}
use Rattle.sv_parse_machine.proofs.ReadSteps.{reads_then}
use Rattle.sv_parse_machine.proofs.ReadRows.{sign_taken, halts_bits_end}
use Rattle.sv_parse_expr.proofs.Halting.{passed, stops_by, stops_then}
use Rattle.sv_parse_stmt.proofs.targets.read_low.Goals as goal

pub returns-clause-is : goal.returns-clause-is
returns-clause-is c = (_, c.in_ok-rest.ensures.is c.args.input.bytes.now, c.in_ok-low.ensures.is)

-- ---- the machine of the grammar

pub returns-in_err-rest-clause-halts : goal.returns-in_err-rest-clause-halts
returns-in_err-rest-clause-halts c = λ no_bracket.
    passed _ _ _ c.from_residual.ensures.1
    (stops_by c.args.input.bytes.now _ _ _ _ (λ no_colon.
    halts_bits_end c.args.levels _ no_bracket no_colon)
    (c.in_err-rest.ensures.stops c.args.input.bytes.now))

pub returns-in_err-low-clause-halts : goal.returns-in_err-low-clause-halts
returns-in_err-low-clause-halts c = λ no_bracket.
    let n = c.args.levels in
    passed _ _ _ c.from_residual-in_err-low.ensures.1
    (stops_then _ (outer (expression n) ∷ outer (punctuation signs.CloseBracket) ∷ []) _ _ _
    (sign_taken (bits_end n) signs.Colon (expression n ∷ punctuation signs.CloseBracket ∷ []) _ _
    refl (c.in_ok-rest.ensures.is c.args.input.bytes.now))
    c.in_err-low.ensures.halts)

pub returns-clause-reads : goal.returns-clause-reads
returns-clause-reads c =
    let n = c.args.levels in
    reads_then _ (outer (expression n) ∷ outer (punctuation signs.CloseBracket) ∷ []) [] _ _ _
    (sign_taken (bits_end n) signs.Colon (expression n ∷ punctuation signs.CloseBracket ∷ []) _ _
    refl (c.in_ok-rest.ensures.is c.args.input.bytes.now))
    (c.in_ok-low.ensures.reads refl)
