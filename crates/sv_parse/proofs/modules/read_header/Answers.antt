use Rattle.std.proofs.Common.{[], ◌∷◌, refl}
use Rattle.sv_parse_machine.specs.Symbols.{outer, one_module}
use Rattle.sv_parse_machine.proofs.ReadSteps.{reads_then}
use Rattle.sv_parse_machine.proofs.ReadRows.{halts_one_module}
use Rattle.sv_parse_expr.proofs.Halting.{passed, stops_then, stops_by}
use Rattle.sv_parse.proofs.ReadingSymbols.{module_comes, header_comes}
use Rattle.sv_parse.proofs.DeclarationRuns.{and_read, and_stop, front_read, front_stop}
use Rattle.sv_parse.proofs.modules.read_header.Goals as goal

pub returns-clause-is : goal.returns-clause-is
returns-clause-is c = (
  _,
  (c.in_ok-_word._word, c.in_ok-_word.ensures.is c.args.input.bytes.now),
  (
    _,
    c.in_ok-name.ensures.is,
    (
      _,
      c.in_ok-params.ensures.is,
      (_, c.in_ok-ports.ensures.is, c.in_ok-rest.ensures.is c.args.input.bytes.now),
    ),
  ),
)

pub returns-in_err-_word-clause-halts : goal.returns-in_err-_word-clause-halts
returns-in_err-_word-clause-halts c =
    passed _ _ _ c.from_residual.ensures.1
    (stops_by c.args.input.bytes.now _ (outer one_module ∷ []) _ _ (halts_one_module _)
    (c.in_err-_word.ensures.stops c.args.input.bytes.now))

pub returns-in_err-name-clause-halts : goal.returns-in_err-name-clause-halts
returns-in_err-name-clause-halts c =
    passed _ _ _ c.from_residual-in_err-name.ensures.1
    (stops_then _ _ _ _ _ (module_comes _ _ _ (c.in_ok-_word.ensures.is c.args.input.bytes.now))
    (front_stop _ _ _ _ c.in_err-name.ensures.halts))

pub returns-in_err-params-clause-halts : goal.returns-in_err-params-clause-halts
returns-in_err-params-clause-halts c =
    passed _ _ _ c.from_residual-in_err-params.ensures.1
    (stops_then _ _ _ _ _ (module_comes _ _ _ (c.in_ok-_word.ensures.is c.args.input.bytes.now))
    (and_stop _ _ _ _ _ c.in_ok-name.ensures.reads
    (front_stop _ _ _ _ c.in_err-params.ensures.halts)))

pub returns-in_err-ports-clause-halts : goal.returns-in_err-ports-clause-halts
returns-in_err-ports-clause-halts c =
    passed _ _ _ c.from_residual-in_err-ports.ensures.1
    (stops_then _ _ _ _ _ (header_comes _ _ _ _ _ (c.in_ok-_word.ensures.is c.args.input.bytes.now)
    c.in_ok-name.ensures.reads c.in_ok-params.ensures.reads)
    (front_stop _ _ _ _ c.in_err-ports.ensures.halts))

pub returns-in_err-rest-clause-halts : goal.returns-in_err-rest-clause-halts
returns-in_err-rest-clause-halts c =
    passed _ _ _ c.from_residual-in_err-rest.ensures.1
    (stops_then _ _ _ _ _ (header_comes _ _ _ _ _ (c.in_ok-_word.ensures.is c.args.input.bytes.now)
    c.in_ok-name.ensures.reads c.in_ok-params.ensures.reads)
    (and_stop _ _ _ _ _ c.in_ok-ports.ensures.reads
    (front_stop _ _ _ _ (c.in_err-rest.ensures.halts c.args.input.bytes.now))))

pub returns-clause-reads : goal.returns-clause-reads
returns-clause-reads c =
    reads_then _ _ _ _ _ _ (header_comes _ _ _ _ _ (c.in_ok-_word.ensures.is c.args.input.bytes.now)
    c.in_ok-name.ensures.reads c.in_ok-params.ensures.reads)
    (and_read _ _ _ _ _ _ c.in_ok-ports.ensures.reads
    (front_read _ _ _ _ (c.in_ok-rest.ensures.reads c.args.input.bytes.now refl)))
