use Rattle.std.proofs.Common.{[], ◌∷◌, refl}
use Rattle.sv_token.specs.declared.signs.SignKind.TheVariants as signs
use Rattle.sv_parse_machine.specs.Symbols.{outer, punctuation, expression, assigns}
use Rattle.sv_parse_machine.proofs.ReadSteps.{reads_then}
use Rattle.sv_parse_expr.proofs.Halting.{passed, stops_then}
use Rattle.sv_parse_expr.proofs.ReadingRuns.{then_read, then_stop}
use Rattle.sv_parse_stmt.proofs.statements.read_assignment.Goals as goal

-- ---- the machine of the grammar

pub returns-in_err-targets-clause-halts : goal.returns-in_err-targets-clause-halts
returns-in_err-targets-clause-halts c = λ comes.
    passed _ _ _ c.from_residual.ensures.1 (c.in_err-targets.ensures.halts comes)

pub returns-in_err-blocking-clause-halts : goal.returns-in_err-blocking-clause-halts
returns-in_err-blocking-clause-halts c = λ comes.
    passed _ _ _ c.from_residual-in_err-blocking.ensures.1
    (then_stop _ (outer assigns ∷ [])
    (outer (expression c.args.levels) ∷ outer (punctuation signs.Semicolon) ∷ []) _ _ _
    (c.in_ok-targets.ensures.reads comes) (c.in_err-blocking.ensures.halts c.args.input.bytes.now))

pub returns-in_err-value-clause-halts : goal.returns-in_err-value-clause-halts
returns-in_err-value-clause-halts c = λ comes.
    passed _ _ _ c.from_residual-in_err-value.ensures.1
    (stops_then _ (outer (expression c.args.levels) ∷ outer (punctuation signs.Semicolon) ∷ [])
    _ _ _
    (then_read _ (outer assigns ∷ [])
    (outer (expression c.args.levels) ∷ outer (punctuation signs.Semicolon) ∷ []) _ _ _
    (c.in_ok-targets.ensures.reads comes) (c.in_ok-blocking.ensures.reads c.args.input.bytes.now))
    c.in_err-value.ensures.halts)

pub returns-clause-reads : goal.returns-clause-reads
returns-clause-reads c = λ comes.
    reads_then _ (outer (expression c.args.levels) ∷ outer (punctuation signs.Semicolon) ∷ []) []
    _ _ _
    (then_read _ (outer assigns ∷ [])
    (outer (expression c.args.levels) ∷ outer (punctuation signs.Semicolon) ∷ []) _ _ _
    (c.in_ok-targets.ensures.reads comes) (c.in_ok-blocking.ensures.reads c.args.input.bytes.now))
    (c.in_ok-value.ensures.reads refl)
