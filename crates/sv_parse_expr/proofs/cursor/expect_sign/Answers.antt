use Rattle.sv_parse_machine.proofs.ReadRows.{punctuation_read, halts_punctuation}
use Rattle.sv_parse_expr.proofs.Halting.{stops_here}
use Rattle.sv_parse_expr.specs.declared.stop.GrammarBreach.TheVariants.{Stuck}
use Rattle.sv_parse_expr.specs.declared.stop.Expected.TheVariants as expected
use Rattle.sv_parse_expr.proofs.cursor.expect_sign.Goals as goal

pub returns-in-Some-clause-reads : goal.returns-in-Some-clause-reads
returns-in-Some-clause-reads c =
    λ bytes kind. punctuation_read _ _ _ kind (c.in-Some.ensures.is bytes)

pub returns-in-None-clause-halts : goal.returns-in-None-clause-halts
returns-in-None-clause-halts c =
    λ bytes. stops_here bytes c.args.tokens.now _ (Stuck expected.Something) c.unexpected.result
    (halts_punctuation _ _ (c.in-None.ensures.none bytes)) c.unexpected.ensures
