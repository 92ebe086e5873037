use Rattle.std.proofs.Common.{[], refl}
use Rattle.sv_token.specs.declared.signs.SignKind.TheVariants as signs
use Rattle.sv_parse_expr.specs.declared.stop.GrammarBreach.TheVariants.{Stuck}
use Rattle.sv_parse_expr.specs.declared.stop.Expected.TheVariants as expected
use Rattle.sv_parse_machine.specs.Symbols.{assigns}
use Rattle.sv_parse_machine.proofs.ReadRows.{sign_taken, halts_assigns}
use Rattle.sv_parse_expr.proofs.Halting.{stops_here}
use Rattle.sv_parse_stmt.proofs.SymbolsAlike.{less_equal_assigns}
use Rattle.sv_parse_stmt.proofs.statements.assigns.Goals as goal

pub returns-in-Some-clause-reads : goal.returns-in-Some-clause-reads
returns-in-Some-clause-reads c =
    λ bytes. sign_taken assigns signs.Equals [] _ _ refl (c.in-Some.ensures.is bytes)

pub returns-in-Some-operator_at-clause-reads : goal.returns-in-Some-operator_at-clause-reads
returns-in-Some-operator_at-clause-reads c =
    λ bytes. less_equal_assigns _ _ (c.in-Some-operator_at.ensures.is bytes)

pub returns-in-None-clause-halts : goal.returns-in-None-clause-halts
returns-in-None-clause-halts c = λ bytes.
    stops_here bytes c.args.tokens.now _ (Stuck expected.Something) c.unexpected.result
    (halts_assigns _ (c.in_default.ensures.none bytes) (c.in-None.ensures.none bytes))
    c.unexpected.ensures
