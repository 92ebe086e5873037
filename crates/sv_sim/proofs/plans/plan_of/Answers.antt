use Rattle.std.proofs.Common.{◌≡◌, rules}
use Rattle.std.specs.Prelude.{IfOk}
use Rattle.sv_flat.specs.Views.{design_of}
use Rattle.sv_sim.proofs.PlanFacts.{copied_order}
use Rattle.sv_sim.proofs.plans.plan_of.Goals as goal

pub returns : goal.returns
returns c =
    let same : IfOk c.to_vec.result (λ v. v.items ≡ c.order.result.now) = search rules in
    copied_order (design_of c.args.design.now) c.order.ensures.design.is_admitted
    c.order.result.now c.order.ensures.order c.to_vec.result same
