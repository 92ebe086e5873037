use Rattle.sv_flat.specs.FlatSystem.{flat_system}
use Rattle.sv_flat.specs.Processes.{is_register}
use Rattle.sv_flat.specs.Views.{design_of}
use Rattle.sv_sim.proofs.Simulated.{numbers_within}
use Rattle.sv_sim.proofs.sim.Sim.fits.Goals as goal

pub fits-requires : goal.fits-requires
fits-requires c =
    let flat = c.self.inside.design.now in
    numbers_within flat c.signals-signals.result.now c.signals-signals.ensures.signals
    (is_register (design_of flat)) c.registers.result.now c.registers.ensures.registers

pub fits-requires-then-fits : goal.fits-requires-then-fits
fits-requires-then-fits c =
    let flat = c.self.inside.design.now in
    numbers_within flat c.signals-signals.result.now c.signals-signals.ensures.signals
    (flat_system (design_of flat)).is_input c.inputs.result.now c.inputs.ensures.inputs
