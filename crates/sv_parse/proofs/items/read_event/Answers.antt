use Rattle.sv_ast.specs.Views.{placed_name}
use Rattle.sv_parse.proofs.ReadingInstances.{event_is}
use Rattle.std.proofs.Common.{[], ◌∷◌, refl}
use Rattle.std.specs.Option.{option_map}
use Rattle.sv_token.specs.Lexemes.{placed_tokens}
use Rattle.sv_parse_expr.specs.Parses.{placed}
use Rattle.sv_parse_machine.specs.Symbols.{outer, event, event_inside}
use Rattle.sv_parse_machine.proofs.ReadSteps.{reads_then}
use Rattle.sv_parse_machine.proofs.ReadRows.{sign_taken, halts_event}
use Rattle.sv_parse_expr.proofs.Halting.{passed, stops_then, stops_here}
use Rattle.sv_parse.proofs.ReadingSymbols.{star_read}
use Rattle.sv_parse_expr.specs.declared.stop.GrammarBreach.TheVariants.{Stuck}
use Rattle.sv_token.specs.declared.signs.SignKind.TheVariants as signs
use Rattle.sv_parse_expr.specs.declared.stop.Expected.TheVariants as expected
use Rattle.sv_parse.proofs.items.read_event.Goals as goal

pub returns-in-Some-clause-is : goal.returns-in-Some-clause-is
returns-in-Some-clause-is c =
    event_is (option_map placed_name c.in_ok-event.event)
    (placed c.args.input)
    (placed_tokens c.args.input.bytes.now c.in-Some.rest.now)
    (placed_tokens c.args.input.bytes.now c.in_ok-event.rest.now)
    (c.in-Some.ensures.is c.args.input.bytes.now) c.in_ok-event.ensures.is

pub returns-in_err-event-clause-halts : goal.returns-in_err-event-clause-halts
returns-in_err-event-clause-halts c =
    passed _ _ _ c.from_residual.ensures.1
    (stops_then (outer event ∷ []) (outer event_inside ∷ []) _ _ _
    (sign_taken event signs.OpenParenthesis (event_inside ∷ []) _ _ refl
    (c.in-Some.ensures.is c.args.input.bytes.now))
    c.in_err-event.ensures.halts)

pub returns-in-Some-clause-reads : goal.returns-in-Some-clause-reads
returns-in-Some-clause-reads c =
    (reads_then (outer event ∷ []) (outer event_inside ∷ []) [] _ _ _
    (sign_taken event signs.OpenParenthesis (event_inside ∷ []) _ _ refl
    (c.in-Some.ensures.is c.args.input.bytes.now))
    c.in_ok-event.ensures.reads)

pub returns-in-None-clause-halts : goal.returns-in-None-clause-halts
returns-in-None-clause-halts c =
    (stops_here c.args.input.bytes.now _ (outer event ∷ []) (Stuck expected.Something) _
    (halts_event _ (c.in-None.ensures.none c.args.input.bytes.now)
    (c.in_default.ensures.none c.args.input.bytes.now)) c.unexpected.ensures)

pub returns-in-Some-operator_at-clause-reads : goal.returns-in-Some-operator_at-clause-reads
returns-in-Some-operator_at-clause-reads c =
    (star_read _ _ (c.in-Some-operator_at.ensures.is c.args.input.bytes.now))
