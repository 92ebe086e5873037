use Rattle.std.proofs.Common.{[], ◌∷◌, refl}
use Rattle.sv_parse_machine.specs.Symbols.{outer, punctuation}
use Rattle.sv_parse_machine.specs.Symbols.{header_parameter, more_header_parameters}
use Rattle.sv_parse_machine.proofs.ReadSteps.{reads_then}
use Rattle.sv_parse_machine.specs.Symbols.{perhaps_header_parameters}
use Rattle.sv_parse_machine.proofs.SkippedRows.{skips_symbol}
use Rattle.sv_parse_expr.proofs.Halting.{passed, stops_then}
use Rattle.sv_token.specs.declared.signs.SignKind.TheVariants as signs
use Rattle.std.proofs.Common.{inr}
use Rattle.sv_parse.proofs.ReadingSymbols.{parameters_come}
use Rattle.sv_parse.proofs.DeclarationRuns.{and_read, and_stop, front_stop}
use Rattle.sv_parse.proofs.modules.read_parameter_list.Goals as goal

pub returns-in_err-rest-in-Some-clause-halts : goal.returns-in_err-rest-in-Some-clause-halts
returns-in_err-rest-in-Some-clause-halts c =
    passed _ _ _ c.from_residual.ensures.1
    (stops_then _ _ _ _ _
    (parameters_come _ _ (c.in-Some.ensures.is c.args.input.bytes.now))
    (front_stop _ _ _ _ (c.in_err-rest-in-Some.ensures.halts c.args.input.bytes.now)))

pub returns-in_err-params-in-Some-clause-halts : goal.returns-in_err-params-in-Some-clause-halts
returns-in_err-params-in-Some-clause-halts c =
    passed _ _ _ c.from_residual-in_err-params-in-Some.ensures.1
    (stops_then _ _ _ _ _
    (parameters_come _ _ (c.in-Some.ensures.is c.args.input.bytes.now))
    (and_stop _ _ _ _ _ (c.in_ok-rest-in-Some.ensures.reads c.args.input.bytes.now refl)
    c.in_err-params-in-Some.ensures.halts))

pub returns-in_err-rest-in-Some-2-clause-halts : goal.returns-in_err-rest-in-Some-2-clause-halts
returns-in_err-rest-in-Some-2-clause-halts c =
    passed _ _ _ c.from_residual-in_err-rest-in-Some-2.ensures.1
    (stops_then _ _ _ _ _
    (parameters_come _ _ (c.in-Some.ensures.is c.args.input.bytes.now))
    (and_stop _ _ _ _ _ (c.in_ok-rest-in-Some.ensures.reads c.args.input.bytes.now refl)
    (stops_then (outer header_parameter ∷ outer more_header_parameters ∷ []) (outer
    (punctuation signs.CloseParenthesis) ∷ []) _ _ _ c.in_ok-params-in-Some.ensures.reads
    (c.in_err-rest-in-Some-2.ensures.halts c.args.input.bytes.now))))

pub returns-in_ok-rest-in-Some-2-clause-reads : goal.returns-in_ok-rest-in-Some-2-clause-reads
returns-in_ok-rest-in-Some-2-clause-reads c =
    reads_then _ _ _ _ _ _
    (parameters_come _ _ (c.in-Some.ensures.is c.args.input.bytes.now))
    (and_read _ _ _ _ _ _ (c.in_ok-rest-in-Some.ensures.reads c.args.input.bytes.now refl)
    (reads_then (outer header_parameter ∷ outer more_header_parameters ∷ []) (outer
    (punctuation signs.CloseParenthesis) ∷ []) [] _ _ _ c.in_ok-params-in-Some.ensures.reads
    (c.in_ok-rest-in-Some-2.ensures.reads c.args.input.bytes.now refl)))

pub returns-in-None-clause-reads : goal.returns-in-None-clause-reads
returns-in-None-clause-reads c =
    (skips_symbol perhaps_header_parameters tt _ (c.in-None.ensures.none c.args.input.bytes.now))

pub returns-in_ok-rest-in-Some-2-clause-is : goal.returns-in_ok-rest-in-Some-2-clause-is
returns-in_ok-rest-in-Some-2-clause-is c =
    inr (
      _,
      (c.in-Some.ensures.is c.args.input.bytes.now),
      (
        _,
        c.in_ok-rest-in-Some.ensures.is c.args.input.bytes.now,
        (
          _,
          c.in_ok-params-in-Some.ensures.is,
          c.in_ok-rest-in-Some-2.ensures.is c.args.input.bytes.now,
        ),
      ),
    )
