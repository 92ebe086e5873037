use Rattle.std.proofs.Common.{subst, ap, ◌∙◌, sym, length}
use Rattle.sv_clause.specs.Units.{IsAtRest}
use Rattle.sv_solve.specs.Known.{clauses_known}
use Rattle.sv_solve.proofs.Levels.{rest_here, state_of}
use Rattle.sv_solve.proofs.state.SolverState.trail.Goals as goal

pub returns-clause-rest : goal.returns-clause-rest
returns-clause-rest c =
    λ all. subst (λ z. IsAtRest (clauses_known z.known) z.trail.literals) c.self.view_is
    (rest_here (state_of c.self.inside) c.self.invariant c.len-len.ensures.consistent
    (ap (λ z. z.propagated) c.self.view_is ∙ all
    ∙ sym (ap (λ z. length z.trail.literals) c.self.view_is)))
