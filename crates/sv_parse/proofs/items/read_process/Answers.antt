use Rattle.std.proofs.Common.{refl}
use Rattle.sv_parse_machine.proofs.ReadSteps.{reads_then}
use Rattle.sv_parse_expr.proofs.Halting.{passed, stops_then}
use Rattle.sv_parse_stmt.proofs.SymbolsAlike.{word_is_there}
use Rattle.sv_parse.proofs.ReadingSymbols.{process_comes}
use Rattle.sv_token.specs.declared.keywords.WordKind.TheVariants as words
use Rattle.sv_parse.proofs.DeclarationRuns.{and_read, and_stop, front_read, front_stop}
use Rattle.sv_parse.proofs.items.read_process.Goals as goal

pub returns-clause-is : goal.returns-clause-is
returns-clause-is c = (
  _,
  c.in_ok-place.ensures.is c.args.input.bytes.now,
  (
    _,
    c.in_ok-rest.ensures.is c.args.input.bytes.now,
    (_, c.in_ok-clock.ensures.is, c.in_ok-body.ensures.is),
  ),
)

pub returns-in_err-place-clause-halts : goal.returns-in_err-place-clause-halts
returns-in_err-place-clause-halts c = λ is.
    passed _ _ _ c.from_residual.ensures.1
    (word_is_there _ words.Always _ _ _ _ is (c.in_err-place.ensures.stops c.args.input.bytes.now))

pub returns-in_err-rest-clause-halts : goal.returns-in_err-rest-clause-halts
returns-in_err-rest-clause-halts c = λ is.
    passed _ _ _ c.from_residual-in_err-rest.ensures.1
    (stops_then _ _ _ _ _ (process_comes _ _ _ (c.in_ok-place.ensures.is c.args.input.bytes.now))
    (front_stop _ _ _ _ (c.in_err-rest.ensures.halts c.args.input.bytes.now)))

pub returns-in_err-clock-clause-halts : goal.returns-in_err-clock-clause-halts
returns-in_err-clock-clause-halts c = λ is.
    passed _ _ _ c.from_residual-in_err-clock.ensures.1
    (stops_then _ _ _ _ _ (process_comes _ _ _ (c.in_ok-place.ensures.is c.args.input.bytes.now))
    (and_stop _ _ _ _ _ (c.in_ok-rest.ensures.reads c.args.input.bytes.now refl)
    (front_stop _ _ _ _ c.in_err-clock.ensures.halts)))

pub returns-in_err-body-clause-halts : goal.returns-in_err-body-clause-halts
returns-in_err-body-clause-halts c = λ is.
    passed _ _ _ c.from_residual-in_err-body.ensures.1
    (stops_then _ _ _ _ _ (process_comes _ _ _ (c.in_ok-place.ensures.is c.args.input.bytes.now))
    (and_stop _ _ _ _ _ (c.in_ok-rest.ensures.reads c.args.input.bytes.now refl)
    (and_stop _ _ _ _ _ c.in_ok-clock.ensures.reads
    (front_stop _ _ _ _ c.in_err-body.ensures.halts))))

pub returns-clause-reads : goal.returns-clause-reads
returns-clause-reads c = λ is.
    reads_then _ _ _ _ _ _ (process_comes _ _ _ (c.in_ok-place.ensures.is c.args.input.bytes.now))
    (and_read _ _ _ _ _ _ (c.in_ok-rest.ensures.reads c.args.input.bytes.now refl)
    (and_read _ _ _ _ _ _ c.in_ok-clock.ensures.reads
    (front_read _ _ _ _ c.in_ok-body.ensures.reads)))
