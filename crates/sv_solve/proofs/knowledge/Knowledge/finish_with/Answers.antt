use Rattle.std.proofs.Common.{subst}
use Rattle.sv_solve.specs.Known.{EachNew}
use Rattle.sv_solve.proofs.knowledge.Knowledge.finish_with.Goals as goal

pub returns-clause-each_new : goal.returns-clause-each_new
returns-clause-each_new c =
    subst (λ z. EachNew z.given z.steps) c.self.view_is c.self.invariant.1.each_new
