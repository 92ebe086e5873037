use Rattle.std.proofs.Common.{length}
use Rattle.sv_solve.proofs.Minimizing.{GoesBack}
use Rattle.sv_solve.proofs.minimization.minimize.Given as goal

abbrev pub invariant-back : goal.invariant-back
invariant-back l =
    GoesBack l.clauses l.trail.literals l.seen.literals l.point.asserting l.point.mark l.chain.items
    l.literals.items l.keep l.places.items

abbrev pub decreases-back : goal.decreases-back
decreases-back l = length l.places.items
