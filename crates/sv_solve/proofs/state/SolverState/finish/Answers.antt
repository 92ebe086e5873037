use Rattle.std.proofs.Common.{ap, ◌∙◌, sym, subst, length}
use Rattle.sv_clause.specs.Logs.{plain_log}
use Rattle.sv_solve.specs.Outcomes.{IsSpent}
use Rattle.sv_solve.proofs.Levels.{rest_here, state_of}
use Rattle.sv_solve.proofs.Ends.{spent_known}
use Rattle.sv_solve.proofs.state.SolverState.finish.Goals as goal

pub returns : goal.returns
returns c =
    let s = c.self.inside in
    subst (λ z. IsSpent z.known c.finish.result) c.self.view_is
    (spent_known s.known (plain_log c.finish.result) s.trail.literals c.finish.ensures.steps
    c.finish.ensures.derived c.finish.ensures.each_new c.finish.ensures.of
    (rest_here (state_of s) c.self.invariant c.len-len.ensures.consistent
    (ap (λ z. z.propagated) c.self.view_is ∙ c.requires
    ∙ sym (ap (λ z. length z.trail.literals) c.self.view_is))))
