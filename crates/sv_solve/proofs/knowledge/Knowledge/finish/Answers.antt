use Rattle.std.proofs.Common.{subst}
use Rattle.std.specs.Prelude.{All}
use Rattle.sv_solve.specs.Search.{IsClauseOf}
use Rattle.sv_solve.specs.Known.{EachNew, clauses_known}
use Rattle.sv_solve.proofs.knowledge.Knowledge.finish.Goals as goal

pub returns-clause-of : goal.returns-clause-of
returns-clause-of c =
    subst (λ z. All (IsClauseOf z.variables) (clauses_known z)) c.self.view_is
    (subst (All (IsClauseOf c.self.inside.variables)) c.self.invariant.1.kept_is
    c.self.invariant.1.of)

pub returns-clause-each_new : goal.returns-clause-each_new
returns-clause-each_new c =
    subst (λ z. EachNew z.given z.steps) c.self.view_is c.self.invariant.1.each_new
