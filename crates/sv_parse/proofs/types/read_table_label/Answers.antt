use Rattle.std.proofs.Common.{refl}
use Rattle.sv_parse_expr.proofs.Halting.{passed}
use Rattle.sv_parse.proofs.DeclarationRuns.{and_stop, front_stop}
use Rattle.sv_parse.proofs.types.read_table_label.Goals as goal

pub returns-clause-is : goal.returns-clause-is
returns-clause-is c = (
  (refl, refl),
  (
    _,
    (c.in_ok-first._at, c.in_ok-first.ensures.is),
    (
      _,
      c.in_ok-second.ensures.is,
      (
        _,
        c.in_ok-rest.ensures.is c.args.input.bytes.now,
        c.in_ok-rest-2.ensures.is c.args.input.bytes.now,
      ),
    ),
  ),
)

pub returns-in_err-rest-clause-halts : goal.returns-in_err-rest-clause-halts
returns-in_err-rest-clause-halts c =
    passed _ _ _ c.from_residual-in_err-rest.ensures.1
    (and_stop _ _ _ _ _ c.in_ok-first.ensures.reads
    (and_stop _ _ _ _ _ c.in_ok-second.ensures.reads
    (front_stop _ _ _ _ (c.in_err-rest.ensures.halts c.args.input.bytes.now))))

pub returns-in_err-rest-2-clause-halts : goal.returns-in_err-rest-2-clause-halts
returns-in_err-rest-2-clause-halts c =
    passed _ _ _ c.from_residual-in_err-rest-2.ensures.1
    (and_stop _ _ _ _ _ c.in_ok-first.ensures.reads
    (and_stop _ _ _ _ _ c.in_ok-second.ensures.reads
    (and_stop _ _ _ _ _ (c.in_ok-rest.ensures.reads c.args.input.bytes.now refl)
    (c.in_err-rest-2.ensures.halts c.args.input.bytes.now))))
