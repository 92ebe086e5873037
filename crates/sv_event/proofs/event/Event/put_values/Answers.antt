use Rattle.std.proofs.Common.{not}
use Rattle.sv_flat.specs.Clocks.{is_clock}
use Rattle.sv_flat.specs.Views.{design_of}
use Rattle.sv_sim.proofs.Simulated.{numbers_within}
use Rattle.sv_event.proofs.event.Event.put_values.Goals as goal

pub put_listed-requires-clause-known : goal.put_listed-requires-clause-known
put_listed-requires-clause-known c =
    let flat = c.self.inside.design.now in
    numbers_within flat c.signals.result.now c.signals.ensures.signals
    (λ s. not (is_clock (design_of flat) s)) c.seen.result.now c.seen.ensures.seen
