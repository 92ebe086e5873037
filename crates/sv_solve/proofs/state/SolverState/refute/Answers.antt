use Rattle.std.proofs.Common.{subst}
use Rattle.std.specs.Prelude.{IfOk}
use Rattle.sv_solve.specs.Outcomes.{IsRefutation}
use Rattle.sv_solve.proofs.state.SolverState.refute.Goals as goal

pub returns-clause-refutation : goal.returns-clause-refutation
returns-clause-refutation c =
    subst (λ z. IfOk c.refute_known.result (IsRefutation z.known)) c.self.view_is
    c.refute_known.ensures.refutation
