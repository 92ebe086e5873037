use Rattle.std.proofs.Common.{[], ◌∷◌, refl}
use Rattle.sv_parse_machine.specs.Symbols.{outer, less_equal}
use Rattle.sv_parse_machine.proofs.ReadRows.{halts_less_equal}
use Rattle.sv_parse_expr.proofs.Halting.{passed, stops_here}
use Rattle.sv_parse.proofs.ReadingSymbols.{less_equal_read}
use Rattle.sv_parse_expr.specs.declared.stop.GrammarBreach.TheVariants.{Stuck}
use Rattle.sv_parse_expr.specs.declared.stop.Expected.TheVariants as expected
use Rattle.sv_parse.proofs.DeclarationRuns.{and_read, and_stop, front_stop}
use Rattle.sv_parse.proofs.lattices.read_pair.Goals as goal

pub returns-clause-is : goal.returns-clause-is
returns-clause-is c = (
  _,
  c.in_ok-lower.ensures.is,
  (
    _,
    c.in-Some.ensures.is c.args.input.bytes.now,
    (_, c.in_ok-upper.ensures.is, c.in_ok-rest.ensures.is c.args.input.bytes.now),
  ),
)

pub returns-in_err-lower-clause-halts : goal.returns-in_err-lower-clause-halts
returns-in_err-lower-clause-halts c =
    passed _ _ _ c.from_residual.ensures.1 (front_stop _ _ _ _ c.in_err-lower.ensures.halts)

pub returns-in_default-clause-halts : goal.returns-in_default-clause-halts
returns-in_default-clause-halts c =
    and_stop _ _ _ _ _ c.in_ok-lower.ensures.reads
    (front_stop _ _ _ _ (stops_here c.args.input.bytes.now _ (outer less_equal ∷ [])
    (Stuck expected.Something) _
    (halts_less_equal _ (c.in_default.ensures.none c.args.input.bytes.now)) c.unexpected.ensures))

pub returns-in_err-upper-clause-halts : goal.returns-in_err-upper-clause-halts
returns-in_err-upper-clause-halts c =
    passed _ _ _ c.from_residual-in_err-upper.ensures.1
    (and_stop _ _ _ _ _ c.in_ok-lower.ensures.reads
    (and_stop _ _ _ _ _ (less_equal_read _ _ (c.in-Some.ensures.is c.args.input.bytes.now))
    (front_stop _ _ _ _ c.in_err-upper.ensures.halts)))

pub returns-in_err-rest-clause-halts : goal.returns-in_err-rest-clause-halts
returns-in_err-rest-clause-halts c =
    passed _ _ _ c.from_residual-in_err-rest.ensures.1
    (and_stop _ _ _ _ _ c.in_ok-lower.ensures.reads
    (and_stop _ _ _ _ _ (less_equal_read _ _ (c.in-Some.ensures.is c.args.input.bytes.now))
    (and_stop _ _ _ _ _ c.in_ok-upper.ensures.reads
    (c.in_err-rest.ensures.halts c.args.input.bytes.now))))

pub returns-clause-reads : goal.returns-clause-reads
returns-clause-reads c =
    and_read _ _ _ _ _ _ c.in_ok-lower.ensures.reads
    (and_read _ _ _ _ _ _ (less_equal_read _ _ (c.in-Some.ensures.is c.args.input.bytes.now))
    (and_read _ _ _ _ _ _ c.in_ok-upper.ensures.reads
    (c.in_ok-rest.ensures.reads c.args.input.bytes.now refl)))
