use Rattle.std.proofs.Common.{[], ◌∷◌}
use Rattle.sv_parse_machine.specs.Symbols.{outer, plain_name, perhaps_bits}
use Rattle.sv_parse_machine.proofs.ReadSteps.{reads_before}
use Rattle.sv_parse_expr.proofs.Halting.{passed, stops_before}
use Rattle.sv_parse_expr.proofs.ReadingRuns.{then_read, then_stop}
use Rattle.sv_parse_stmt.proofs.targets.read_target.Goals as goal

pub returns-clause-is : goal.returns-clause-is
returns-clause-is c = (_, c.in_ok-name.ensures.is, c.in_ok-select.ensures.is)

pub returns-clause-reads : goal.returns-clause-reads
returns-clause-reads c =
    then_read _ (outer (perhaps_bits c.args.levels) ∷ []) [] _ _ _
    (reads_before (outer plain_name ∷ []) [] (outer (perhaps_bits c.args.levels) ∷ []) _ _
    c.in_ok-name.ensures.reads) c.in_ok-select.ensures.reads

pub returns-in_err-name-clause-halts : goal.returns-in_err-name-clause-halts
returns-in_err-name-clause-halts c =
    passed _ _ _ c.from_residual.ensures.1
    (stops_before (outer plain_name ∷ []) (outer (perhaps_bits c.args.levels) ∷ []) _ _
    c.in_err-name.ensures.halts)

pub returns-in_err-select-clause-halts : goal.returns-in_err-select-clause-halts
returns-in_err-select-clause-halts c =
    passed _ _ _ c.from_residual-in_err-select.ensures.1
    (then_stop _ (outer (perhaps_bits c.args.levels) ∷ []) [] _ _ _
    (reads_before (outer plain_name ∷ []) [] (outer (perhaps_bits c.args.levels) ∷ []) _ _
    c.in_ok-name.ensures.reads) c.in_err-select.ensures.halts)
