use Rattle.sv_flat.specs.Views.{design_of}
use Rattle.sv_sim.proofs.PlanFacts.{AreLeft}
use Rattle.sv_sim.proofs.plans.combinational.Given as goal

abbrev pub invariant-loop-k : goal.invariant-loop-k
invariant-loop-k l = AreLeft (design_of l.design) l.left.items l.k
