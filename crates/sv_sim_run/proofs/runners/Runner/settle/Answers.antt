use Rattle.std.proofs.Common.{Some, sym, subst}
use Rattle.sv_flat.specs.ByNumber.{by_number}
use Rattle.sv_flat.specs.Views.{design_of}
use Rattle.sv_sim_run.specs.declared.runners.Runner.{Runner}
use Rattle.sv_sim_run.specs.Runners.{CountsRounds, design_in, order_in, rounds_in, values_in}
use Rattle.sv_sim_run.proofs.runners.Runner.settle.Goals as goal

pub returns-in-Drawn-clause-counted : goal.returns-in-Drawn-clause-counted
returns-in-Drawn-clause-counted c =
    let new = c.settle-in-Drawn.new.self in
    subst (λ (old : Runner). CountsRounds (design_of (design_in old)) (order_in old) c.args.cycle
    c.args.inputs.now (values_in old) (by_number new.event.values) (rounds_in old)
    (Some new.rounds))
    (sym c.in-Drawn.is) c.settle-in-Drawn.ensures.counted
