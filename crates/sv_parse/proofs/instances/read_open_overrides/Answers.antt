use Rattle.std.proofs.Common.{[], ◌∷◌, refl}
use Rattle.sv_parse_machine.specs.Symbols.{outer, punctuation, plain_name, expression, more_values}
use Rattle.sv_parse_machine.specs.Symbols.{overrides, more_named_overrides}
use Rattle.sv_parse_machine.proofs.ReadSteps.{reads_then}
use Rattle.sv_parse_machine.proofs.ReadLists.{ends_more_named_overrides, ends_more_values}
use Rattle.sv_parse_machine.proofs.SkippedRows.{begins_overrides}
use Rattle.sv_parse_expr.proofs.Halting.{passed, stops_then}
use Rattle.sv_parse.proofs.ReadingSymbols.{as_expression, begins_with_sign, goes_on_overrides}
use Rattle.sv_parse.proofs.ReadingSymbols.{goes_on_values}
use Rattle.sv_token.specs.declared.signs.SignKind.TheVariants as signs
use Rattle.sv_parse.proofs.instances.read_open_overrides.Goals as goal

pub returns-in_err-values-in-Some-clause-halts : goal.returns-in_err-values-in-Some-clause-halts
returns-in_err-values-in-Some-clause-halts c =
    passed _ _ _ c.from_residual.ensures.1
    (stops_then (outer overrides ∷ [])
    (outer (punctuation signs.Dot) ∷ outer plain_name ∷
    outer (punctuation signs.OpenParenthesis) ∷ outer (expression 0) ∷
    outer (punctuation signs.CloseParenthesis) ∷
    outer more_named_overrides ∷ []) _ _ _
    (begins_with_sign overrides signs.Dot
    (plain_name ∷ (punctuation signs.OpenParenthesis) ∷ (expression 0) ∷
    (punctuation signs.CloseParenthesis) ∷ more_named_overrides ∷ []) _ _ refl refl
    (c.in-Some.ensures.is c.args.input.bytes.now))
    (c.in_err-values-in-Some.ensures.halts (outer more_named_overrides ∷ [])
    (outer more_named_overrides ∷ []) goes_on_overrides refl tt))

pub returns-in_ok-values-in-Some-clause-reads : goal.returns-in_ok-values-in-Some-clause-reads
returns-in_ok-values-in-Some-clause-reads c =
    (reads_then (outer overrides ∷ [])
    (outer (punctuation signs.Dot) ∷ outer plain_name ∷
    outer (punctuation signs.OpenParenthesis) ∷ outer (expression 0) ∷
    outer (punctuation signs.CloseParenthesis) ∷
    outer more_named_overrides ∷ []) (outer (punctuation signs.CloseParenthesis) ∷ []) _ _ _
    (begins_with_sign overrides signs.Dot
    (plain_name ∷ (punctuation signs.OpenParenthesis) ∷ (expression 0) ∷
    (punctuation signs.CloseParenthesis) ∷ more_named_overrides ∷ []) _ _ refl refl
    (c.in-Some.ensures.is c.args.input.bytes.now))
    (reads_then (outer (punctuation signs.Dot) ∷ outer plain_name ∷
    outer (punctuation signs.OpenParenthesis) ∷ outer (expression 0) ∷
    outer (punctuation signs.CloseParenthesis) ∷
    outer more_named_overrides ∷ []) (outer more_named_overrides ∷ [])
    (outer (punctuation signs.CloseParenthesis) ∷ []) _ _ _
    (c.in_ok-values-in-Some.ensures.reads (outer more_named_overrides ∷ [])
    (outer more_named_overrides ∷ []) goes_on_overrides refl tt)
    (ends_more_named_overrides _ c.in_ok-values-in-Some.ensures.ends)))

pub returns-in_err-values-in-None-clause-halts : goal.returns-in_err-values-in-None-clause-halts
returns-in_err-values-in-None-clause-halts c =
    passed _ _ _ c.from_residual-in_err-values-in-None.ensures.1
    (stops_then (outer overrides ∷ []) (outer (expression 0) ∷ outer more_values ∷ []) _ _ _
    (as_expression (outer overrides ∷ []) 0 (more_values ∷ []) _
    (begins_overrides _ (c.in-None.ensures.none c.args.input.bytes.now)))
    (c.in_err-values-in-None.ensures.halts (outer more_values ∷ []) (outer more_values ∷ [])
    goes_on_values refl tt))

pub returns-in_ok-values-in-None-clause-reads : goal.returns-in_ok-values-in-None-clause-reads
returns-in_ok-values-in-None-clause-reads c =
    (reads_then (outer overrides ∷ []) (outer (expression 0) ∷ outer more_values ∷ [])
    (outer (punctuation signs.CloseParenthesis) ∷ []) _ _ _
    (as_expression (outer overrides ∷ []) 0 (more_values ∷ []) _
    (begins_overrides _ (c.in-None.ensures.none c.args.input.bytes.now)))
    (reads_then (outer (expression 0) ∷ outer more_values ∷ []) (outer more_values ∷ [])
    (outer (punctuation signs.CloseParenthesis) ∷ []) _ _ _
    (c.in_ok-values-in-None.ensures.reads (outer more_values ∷ []) (outer more_values ∷ [])
    goes_on_values refl tt)
    (ends_more_values _ c.in_ok-values-in-None.ensures.ends)))
