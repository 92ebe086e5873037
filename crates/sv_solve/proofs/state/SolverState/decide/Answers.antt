use Rattle.std.proofs.Common.{ap, ◌∙◌, sym, ◌++◌, ◌∷◌, [], length}
use Rattle.sv_solve.proofs.Levels.{after_decide, state_of}
use Rattle.sv_solve.proofs.state.SolverState.decide.Goals as goal

pub invariant_of-self : goal.invariant_of-self
invariant_of-self c =
    after_decide (state_of c.self.inside) c.push-2.new.self c.push.new.self.items c.args.literal.now
    0 c.self.invariant c.len.ensures.consistent
    (ap (λ z. z.propagated) c.self.view_is ∙ c.requires.propagated
    ∙ sym (ap (λ z. length z.trail.literals) c.self.view_is))
    c.in_ok-push-2.ensures.literals c.in_ok-push-2.ensures.reasons c.in_ok-push-2.ensures.variables
    (c.in_ok-push.ensures.items
    ∙ ap (λ z. c.self.inside.decisions.items ++ z ∷ []) c.len.ensures.value)
