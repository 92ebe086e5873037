use Rattle.std.proofs.Common.{refl}
use Rattle.sv_parse_expr.proofs.Halting.{passed}
use Rattle.sv_parse.proofs.DeclarationRuns.{and_read, and_stop, front_stop}
use Rattle.sv_parse.proofs.label_maps.read_to_point.Goals as goal

pub returns-clause-is : goal.returns-clause-is
returns-clause-is c = (
  _,
  c.in_ok-rest.ensures.is c.args.input.bytes.now,
  (
    _,
    (c.in_ok-point._place, c.in_ok-point.ensures.is),
    c.in_ok-rest-2.ensures.is c.args.input.bytes.now,
  ),
)

pub returns-in_err-rest-clause-halts : goal.returns-in_err-rest-clause-halts
returns-in_err-rest-clause-halts c =
    passed _ _ _ c.from_residual.ensures.1
    (front_stop _ _ _ _ (c.in_err-rest.ensures.halts c.args.input.bytes.now))

pub returns-in_err-point-clause-halts : goal.returns-in_err-point-clause-halts
returns-in_err-point-clause-halts c =
    passed _ _ _ c.from_residual-in_err-point.ensures.1
    (and_stop _ _ _ _ _ (c.in_ok-rest.ensures.reads c.args.input.bytes.now refl)
    (front_stop _ _ _ _ c.in_err-point.ensures.halts))

pub returns-in_err-rest-2-clause-halts : goal.returns-in_err-rest-2-clause-halts
returns-in_err-rest-2-clause-halts c =
    passed _ _ _ c.from_residual-in_err-rest-2.ensures.1
    (and_stop _ _ _ _ _ (c.in_ok-rest.ensures.reads c.args.input.bytes.now refl)
    (and_stop _ _ _ _ _ c.in_ok-point.ensures.reads
    (c.in_err-rest-2.ensures.halts c.args.input.bytes.now)))

pub returns-clause-reads : goal.returns-clause-reads
returns-clause-reads c =
    and_read _ _ _ _ _ _ (c.in_ok-rest.ensures.reads c.args.input.bytes.now refl)
    (and_read _ _ _ _ _ _ c.in_ok-point.ensures.reads
    (c.in_ok-rest-2.ensures.reads c.args.input.bytes.now refl))
