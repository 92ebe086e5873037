use Rattle.std.proofs.Common.{[], ◌∷◌}
use Rattle.sv_parse_machine.specs.Symbols.{outer, punctuation, expression}
use Rattle.sv_parse_machine.proofs.ReadSteps.{reads_before}
use Rattle.sv_parse_expr.proofs.Halting.{passed, stops_before}
use Rattle.sv_parse_expr.proofs.ReadingRuns.{then_read, then_stop}
use Rattle.sv_parse_stmt.proofs.closed.read_closed.Goals as goal

pub returns-clause-is : goal.returns-clause-is
returns-clause-is c = (_, c.in_ok-expr.ensures.is, c.in_ok-rest.ensures.is c.args.input.bytes.now)

pub returns-in_err-expr-clause-halts : goal.returns-in_err-expr-clause-halts
returns-in_err-expr-clause-halts c =
    passed _ _ _ c.from_residual.ensures.1
    (stops_before (outer (expression c.args.levels) ∷ []) (outer (punctuation c.args.sign) ∷ []) _
    _ c.in_err-expr.ensures.halts)

pub returns-in_err-rest-clause-halts : goal.returns-in_err-rest-clause-halts
returns-in_err-rest-clause-halts c =
    passed _ _ _ c.from_residual-in_err-rest.ensures.1
    (then_stop _ (outer (punctuation c.args.sign) ∷ []) [] _ _ _
    (reads_before (outer (expression c.args.levels) ∷ []) []
    (outer (punctuation c.args.sign) ∷ []) _ _ c.in_ok-expr.ensures.reads)
    (c.in_err-rest.ensures.halts c.args.input.bytes.now))

pub returns-clause-reads : goal.returns-clause-reads
returns-clause-reads c = λ is.
    then_read _ (outer (punctuation c.args.sign) ∷ []) [] _ _ _
    (reads_before (outer (expression c.args.levels) ∷ []) []
    (outer (punctuation c.args.sign) ∷ []) _ _ c.in_ok-expr.ensures.reads)
    (c.in_ok-rest.ensures.reads c.args.input.bytes.now is)
