use Rattle.std.specs.Prelude.{IsTrue}
use Rattle.sv_messages.proofs.Fitting.{fits_design}
use Rattle.sv_messages.proofs.flows.fits.Goals as goal

pub returns : goal.returns
returns c =
    let now = c.fits.ensures.0 c.if-not-fits.false in
    λ (is : IsTrue c.fits-2.result).
    let next = c.fits-2.ensures.0 is in
    fits_design c.in_ok-sim.sim.design c.args.design.now c.deref.result.now c.deref-2.result.now
    c.deref-4.result.now c.args.v.now c.in_ok-sim.ensures.design c.deref.ensures.value
    c.deref-2.ensures.value c.deref-4.ensures.value now.0 now.1 next.1
