use Rattle.std.proofs.Common.{[], ◌∷◌, refl}
use Rattle.sv_token.specs.declared.signs.SignKind.TheVariants as signs
use Rattle.sv_parse_machine.specs.Symbols.{outer, punctuation, expression}
use Rattle.sv_parse_machine.proofs.ReadSteps.{reads_then}
use Rattle.sv_parse_expr.proofs.Halting.{passed, stops_before, stops_then}
use Rattle.sv_parse_expr.proofs.ReadingRuns.{then_stop}
use Rattle.sv_parse_stmt.proofs.AssignmentRuns.{behind_value, release_opened, release_value}
use Rattle.sv_parse_stmt.proofs.assignments.read_released.Goals as goal

pub returns-clause-is : goal.returns-clause-is
returns-clause-is c =
    let value = c.in_ok-value.ensures.is in
    let point = c.in_ok-point.ensures.is in (
      refl,
      (
        _,
        c.in_ok-rest.ensures.is c.args.input.bytes.now,
        (point.0, (value.0, value.1, (_, value.2, point.1)), point.2),
      ),
    )

-- ---- the machine of the grammar

pub returns-in_err-rest-clause-halts : goal.returns-in_err-rest-clause-halts
returns-in_err-rest-clause-halts c =
    passed _ _ _ c.from_residual.ensures.1
    (stops_before (outer (punctuation signs.OpenParenthesis) ∷ [])
    (outer (expression 0) ∷ outer (punctuation signs.Comma) ∷ behind_value) _ _
    (c.in_err-rest.ensures.halts c.args.input.bytes.now))

pub returns-in_err-value-clause-halts : goal.returns-in_err-value-clause-halts
returns-in_err-value-clause-halts c =
    passed _ _ _ c.from_residual-in_err-value.ensures.1
    (then_stop _ (outer (expression 0) ∷ outer (punctuation signs.Comma) ∷ []) behind_value _ _ _
    (release_opened _ _ (c.in_ok-rest.ensures.reads c.args.input.bytes.now refl))
    c.in_err-value.ensures.halts)

pub returns-in_err-point-clause-halts : goal.returns-in_err-point-clause-halts
returns-in_err-point-clause-halts c =
    passed _ _ _ c.from_residual-in_err-point.ensures.1
    (stops_then _ behind_value _ _ _
    (release_value _ _ _ (c.in_ok-rest.ensures.reads c.args.input.bytes.now refl)
    (c.in_ok-value.ensures.reads refl))
    c.in_err-point.ensures.halts)

pub returns-clause-reads : goal.returns-clause-reads
returns-clause-reads c =
    reads_then _ behind_value [] _ _ _
    (release_value _ _ _ (c.in_ok-rest.ensures.reads c.args.input.bytes.now refl)
    (c.in_ok-value.ensures.reads refl))
    c.in_ok-point.ensures.reads
