use Rattle.std.proofs.Common.{sym, subst}
use Rattle.sv_flat.specs.ByNumber.{by_number}
use Rattle.sv_flat.specs.FlatSystem.{flat_system}
use Rattle.sv_flat.specs.Views.{design_of}
use Rattle.sv_obl.specs.Validity.{IsInFrame}
use Rattle.sv_obl.specs.Valuations.{valuation_of}
use Rattle.sv_report.proofs.FrameFacts.{next_settled}
use Rattle.sv_report.proofs.frames.go_to.Goals as goal

pub returns-in-Next-clause-in_frame : goal.returns-in-Next-clause-in_frame
returns-in-Next-clause-in_frame c =
    let sim = c.args.sim.now in
    let design = design_of sim.design in
    let old = by_number sim.values in
    let new = by_number c.settle.new.self.values in
    subst (λ frame. IsInFrame design (valuation_of design c.args.v.now) old frame new)
    (sym c.in-Next.is)
    (next_settled c.tick.new.self.design sim.design c.deref.result.now
    c.args.v.now.next_inputs.items (by_number c.tick.new.self.values)
    ((flat_system design).next old) new c.tick.ensures.design c.deref.ensures.value
    c.tick.ensures.values c.settle.ensures.values)
