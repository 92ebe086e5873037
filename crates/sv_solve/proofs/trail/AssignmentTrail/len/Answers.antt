use Rattle.std.proofs.Common.{subst}
use Rattle.sv_solve.specs.Search.{IsConsistent}
use Rattle.sv_solve.proofs.Trails.{consistent_from}
use Rattle.sv_solve.proofs.trail.AssignmentTrail.len.Goals as goal

pub returns-clause-consistent : goal.returns-clause-consistent
returns-clause-consistent c =
    subst (λ z. IsConsistent z.literals) c.self.view_is
    (consistent_from c.self.inside.assigned.literals c.self.invariant.each_open (λ l e.
    (c.len.ensures.of l e).0))
