use Rattle.sv_solve.specs.Values.{AreValues}
use Rattle.sv_solve.proofs.solver.values_under.Given as goal

abbrev pub invariant-variables : goal.invariant-variables
invariant-variables l = AreValues l.before l.trail l.values.items
