use Rattle.sv_parse_expr.proofs.Halting.{passed}
use Rattle.sv_parse.proofs.DeclarationRuns.{and_read, and_stop, front_stop}
use Rattle.sv_parse.proofs.label_maps.read_row.Goals as goal

pub returns-clause-is : goal.returns-clause-is
returns-clause-is c = (
  _,
  c.in_ok-first.ensures.is c.args.input.bytes.now,
  (_, c.in_ok-second.ensures.is c.args.input.bytes.now, c.in_ok-point.ensures.is),
)

pub returns-in_err-first-clause-halts : goal.returns-in_err-first-clause-halts
returns-in_err-first-clause-halts c =
    passed _ _ _ c.from_residual.ensures.1
    (front_stop _ _ _ _ (c.in_err-first.ensures.halts c.args.input.bytes.now))

pub returns-in_err-second-clause-halts : goal.returns-in_err-second-clause-halts
returns-in_err-second-clause-halts c =
    passed _ _ _ c.from_residual-in_err-second.ensures.1
    (and_stop _ _ _ _ _ (c.in_ok-first.ensures.reads c.args.input.bytes.now)
    (front_stop _ _ _ _ (c.in_err-second.ensures.halts c.args.input.bytes.now)))

pub returns-in_err-point-clause-halts : goal.returns-in_err-point-clause-halts
returns-in_err-point-clause-halts c =
    passed _ _ _ c.from_residual-in_err-point.ensures.1
    (and_stop _ _ _ _ _ (c.in_ok-first.ensures.reads c.args.input.bytes.now)
    (and_stop _ _ _ _ _ (c.in_ok-second.ensures.reads c.args.input.bytes.now)
    c.in_err-point.ensures.halts))

pub returns-clause-reads : goal.returns-clause-reads
returns-clause-reads c =
    and_read _ _ _ _ _ _ (c.in_ok-first.ensures.reads c.args.input.bytes.now)
    (and_read _ _ _ _ _ _ (c.in_ok-second.ensures.reads c.args.input.bytes.now)
    c.in_ok-point.ensures.reads)
