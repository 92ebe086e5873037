use Rattle.sv_flat.specs.Views.{design_of}
use Rattle.sv_design.specs.Numbers.{numbers}
use Rattle.sv_sim.proofs.PlanFacts.{AreTaken}
use Rattle.sv_sim.proofs.plans.is_plan.Given as goal

abbrev pub invariant-loop-k : goal.invariant-loop-k
invariant-loop-k l = AreTaken (design_of l.design) (numbers l.list) l.left.items l.k
