use Rattle.sv_flat.specs.FlatSystem.{flat_system}
use Rattle.sv_flat.specs.Views.{design_of}
use Rattle.sv_sim.proofs.Simulated.{numbers_within}
use Rattle.sv_event.proofs.event.Event.set_inputs.Goals as goal

pub put_listed-requires-clause-known : goal.put_listed-requires-clause-known
put_listed-requires-clause-known c =
    let flat = c.self.inside.design.now in
    numbers_within flat c.signals.result.now c.signals.ensures.signals
    (flat_system (design_of flat)).is_input c.inputs.result.now c.inputs.ensures.inputs
