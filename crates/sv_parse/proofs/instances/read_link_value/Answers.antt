use Rattle.std.proofs.Common.{refl, [], ◌∷◌}
use Rattle.sv_parse_expr.specs.Parses.{placed}
use Rattle.sv_parse_machine.specs.Symbols.{outer, punctuation, expression, link}
use Rattle.sv_parse_machine.proofs.ReadSteps.{reads_then}
use Rattle.sv_parse_machine.proofs.ReadRows.{sign_taken}
use Rattle.sv_parse_machine.proofs.SkippedRows.{begins_link}
use Rattle.sv_parse_expr.proofs.Halting.{passed, stops_then}
use Rattle.sv_parse.proofs.ReadingSymbols.{as_expression}
use Rattle.sv_token.specs.declared.signs.SignKind.TheVariants as signs
use Rattle.sv_parse.proofs.instances.read_link_value.Goals as goal

pub returns-in-Some-clause-is : goal.returns-in-Some-clause-is
returns-in-Some-clause-is c = (
  (placed c.args.input),
  refl,
  (c.in-Some.ensures.is c.args.input.bytes.now),
)

pub returns-clause-is : goal.returns-clause-is
returns-clause-is c = c.in_ok-value.ensures.is

pub returns-in-Some-clause-reads : goal.returns-in-Some-clause-reads
returns-in-Some-clause-reads c =
    sign_taken link signs.CloseParenthesis [] _ _ refl (c.in-Some.ensures.is c.args.input.bytes.now)

pub returns-in_err-value-clause-halts : goal.returns-in_err-value-clause-halts
returns-in_err-value-clause-halts c =
    passed _ _ _ c.from_residual.ensures.1
    (stops_then (outer link ∷ [])
    (outer (expression 0) ∷ outer (punctuation signs.CloseParenthesis) ∷ []) _ _ _
    (as_expression (outer link ∷ []) 0 (punctuation signs.CloseParenthesis ∷ []) _
    (begins_link _ (c.in_default.ensures.none c.args.input.bytes.now)))
    c.in_err-value.ensures.halts)

pub returns-clause-reads : goal.returns-clause-reads
returns-clause-reads c =
    reads_then (outer link ∷ [])
    (outer (expression 0) ∷ outer (punctuation signs.CloseParenthesis) ∷ []) [] _ _ _
    (as_expression (outer link ∷ []) 0 (punctuation signs.CloseParenthesis ∷ []) _
    (begins_link _ (c.in_default.ensures.none c.args.input.bytes.now)))
    (c.in_ok-value.ensures.reads refl)
