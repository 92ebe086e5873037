use Rattle.std.proofs.Common.{refl}
use Rattle.sv_parse_expr.proofs.Halting.{passed}
use Rattle.sv_parse.proofs.DeclarationRuns.{and_read, and_stop, front_stop}
use Rattle.sv_parse.proofs.instances.read_named_instance.Goals as goal

pub returns-clause-is : goal.returns-clause-is
returns-clause-is c = (
  (refl, refl, refl),
  (
    _,
    c.in_ok-name.ensures.is,
    (_, c.in_ok-rest.ensures.is c.args.input.bytes.now, c.in_ok-links.ensures.is),
  ),
)

pub returns-in_err-name-clause-halts : goal.returns-in_err-name-clause-halts
returns-in_err-name-clause-halts c =
    passed _ _ _ c.from_residual.ensures.1 (front_stop _ _ _ _ c.in_err-name.ensures.halts)

pub returns-in_err-rest-clause-halts : goal.returns-in_err-rest-clause-halts
returns-in_err-rest-clause-halts c =
    passed _ _ _ c.from_residual-in_err-rest.ensures.1
    (and_stop _ _ _ _ _ c.in_ok-name.ensures.reads
    (front_stop _ _ _ _ (c.in_err-rest.ensures.halts c.args.input.bytes.now)))

pub returns-in_err-links-clause-halts : goal.returns-in_err-links-clause-halts
returns-in_err-links-clause-halts c =
    passed _ _ _ c.from_residual-in_err-links.ensures.1
    (and_stop _ _ _ _ _ c.in_ok-name.ensures.reads
    (and_stop _ _ _ _ _ (c.in_ok-rest.ensures.reads c.args.input.bytes.now refl)
    c.in_err-links.ensures.halts))

pub returns-clause-reads : goal.returns-clause-reads
returns-clause-reads c =
    and_read _ _ _ _ _ _ c.in_ok-name.ensures.reads
    (and_read _ _ _ _ _ _ (c.in_ok-rest.ensures.reads c.args.input.bytes.now refl)
    c.in_ok-links.ensures.reads)
