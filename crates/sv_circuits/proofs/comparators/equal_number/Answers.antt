use Rattle.std.proofs.Common.{sym, subst, ◌%◌}
use Rattle.std.specs.Prelude.{◌==◌}
use Rattle.sv_gates.specs.Formulas.{IsLiteral}
use Rattle.sv_circuits.proofs.WordKeeps.{word_first, test_within}
use Rattle.sv_circuits.proofs.comparators.equal_number.Goals as goal

pub equal_number_after-requires-clause-before : goal.equal_number_after-requires-clause-before
equal_number_after-requires-clause-before c =
    subst (IsLiteral c.args.gates.now.variables) (sym c.number_test-first.ensures)
    (test_within _ (c.args.number % 2 == 1) c.in-Some.bit.now
    (word_first _ c.requires c.in-Some.ensures.cases.0))
