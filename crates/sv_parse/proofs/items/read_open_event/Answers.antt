use Rattle.std.proofs.Common.{[], ◌∷◌, refl}
use Rattle.sv_parse_machine.specs.Symbols.{outer, punctuation, event_inside}
use Rattle.sv_parse_machine.proofs.ReadSteps.{reads_then}
use Rattle.sv_parse_machine.proofs.ReadRows.{halts_event_inside}
use Rattle.sv_parse_expr.proofs.Halting.{passed, stops_then, stops_here}
use Rattle.sv_parse.proofs.ReadingSymbols.{edge_read, star_inside_read}
use Rattle.sv_parse_expr.specs.declared.stop.GrammarBreach.TheVariants.{Stuck}
use Rattle.sv_token.specs.declared.signs.SignKind.TheVariants as signs
use Rattle.sv_parse_expr.specs.declared.stop.Expected.TheVariants as expected
use Rattle.sv_parse.proofs.items.read_open_event.Goals as goal

pub returns-in-Some-clause-is : goal.returns-in-Some-clause-is
returns-in-Some-clause-is c =
    (_, c.in-Some.ensures.is c.args.input.bytes.now, c.in_ok-name.ensures.is)

pub returns-in_err-name-clause-halts : goal.returns-in_err-name-clause-halts
returns-in_err-name-clause-halts c =
    passed _ _ _ c.from_residual.ensures.1
    (stops_then _ _ _ _ _ (edge_read _ _ (c.in-Some.ensures.is c.args.input.bytes.now))
    c.in_err-name.ensures.halts)

pub returns-in-Some-clause-reads : goal.returns-in-Some-clause-reads
returns-in-Some-clause-reads c =
    reads_then _ _ _ _ _ _ (edge_read _ _ (c.in-Some.ensures.is c.args.input.bytes.now))
    c.in_ok-name.ensures.reads

pub returns-in-None-clause-halts : goal.returns-in-None-clause-halts
returns-in-None-clause-halts c =
    (stops_here c.args.input.bytes.now _ (outer event_inside ∷ []) (Stuck expected.Edge) _
    (halts_event_inside _ (c.in-None.ensures.none c.args.input.bytes.now)
    (c.in_default.ensures.none c.args.input.bytes.now)) c.stuck.ensures)

pub returns-in_err-rest-in-Some-operator_at-clause-halts :
    goal.returns-in_err-rest-in-Some-operator_at-clause-halts
returns-in_err-rest-in-Some-operator_at-clause-halts c =
    passed _ _ _ c.from_residual-in_err-rest-in-Some-operator_at.ensures.1
    (stops_then (outer event_inside ∷ []) (outer (punctuation signs.CloseParenthesis) ∷ []) _ _ _
    (star_inside_read _ _ (c.in-Some-operator_at.ensures.is c.args.input.bytes.now))
    (c.in_err-rest-in-Some-operator_at.ensures.halts c.args.input.bytes.now))

pub returns-in_ok-rest-in-Some-operator_at-clause-reads :
    goal.returns-in_ok-rest-in-Some-operator_at-clause-reads
returns-in_ok-rest-in-Some-operator_at-clause-reads c =
    (reads_then (outer event_inside ∷ []) (outer (punctuation signs.CloseParenthesis) ∷ []) [] _ _ _
    (star_inside_read _ _ (c.in-Some-operator_at.ensures.is c.args.input.bytes.now))
    (c.in_ok-rest-in-Some-operator_at.ensures.reads c.args.input.bytes.now refl))

pub returns-in_ok-rest-in-Some-operator_at-clause-is :
    goal.returns-in_ok-rest-in-Some-operator_at-clause-is
returns-in_ok-rest-in-Some-operator_at-clause-is c = (
  _,
  c.in-Some-operator_at.ensures.is c.args.input.bytes.now,
  c.in_ok-rest-in-Some-operator_at.ensures.is c.args.input.bytes.now,
)
