use Rattle.std.proofs.Common.{subst}
use Rattle.sv_clause.specs.Logs.{plain_step, IsDerived}
use Rattle.sv_solve.proofs.Ends.{refuted_result}
use Rattle.sv_solve.proofs.state.refute_known.Goals as goal

pub returns-clause-refutation : goal.returns-clause-refutation
returns-clause-refutation c =
    refuted_result c.args.known (plain_step c.in_ok-step.step) c.finish_with.result
    c.finish_with.ensures.steps c.finish_with.ensures.derived c.finish_with.ensures.each_new
    (subst (λ z. IsDerived z (plain_step c.in_ok-step.step)) c.clauses.ensures.value
    c.in_ok-step.ensures.derived) c.in_ok-step.ensures.empty
