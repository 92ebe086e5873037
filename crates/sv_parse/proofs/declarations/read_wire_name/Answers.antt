use Rattle.sv_parse_expr.proofs.Halting.{passed}
use Rattle.sv_parse.proofs.DeclarationRuns.{and_read, and_stop, front_stop}
use Rattle.sv_parse.proofs.declarations.read_wire_name.Goals as goal

pub returns-clause-is : goal.returns-clause-is
returns-clause-is c = (_, c.in_ok-name.ensures.is, c.in_ok-value.ensures.is)

pub returns-in_err-name-clause-halts : goal.returns-in_err-name-clause-halts
returns-in_err-name-clause-halts c =
    passed _ _ _ c.from_residual.ensures.1 (front_stop _ _ _ _ c.in_err-name.ensures.halts)

pub returns-in_err-value-clause-halts : goal.returns-in_err-value-clause-halts
returns-in_err-value-clause-halts c =
    passed _ _ _ c.from_residual-in_err-value.ensures.1
    (and_stop _ _ _ _ _ c.in_ok-name.ensures.reads c.in_err-value.ensures.halts)

pub returns-clause-reads : goal.returns-clause-reads
returns-clause-reads c =
    and_read _ _ _ _ _ _ c.in_ok-name.ensures.reads c.in_ok-value.ensures.reads
