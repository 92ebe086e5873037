use Rattle.std.proofs.Common.{◌+◌, ◌*◌, ◌-◌}
use Rattle.sv_solve.proofs.Visits.{IsPropagating}
use Rattle.sv_solve.proofs.watches.Watches.propagate.Given as goal

abbrev pub invariant-literals : goal.invariant-literals
invariant-literals l = IsPropagating l.clauses l.fn.self l.fn.trail l.self l.trail l.from l.head

abbrev pub decreases-literals : goal.decreases-literals
decreases-literals l = 2 * l.trail.variables + 3 - l.head
