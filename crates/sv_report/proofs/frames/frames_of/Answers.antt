use Rattle.std.proofs.Common.{◌≡◌, sym, subst, ◌∙◌, rules}
use Rattle.sv_flat.specs.declared.designs.Flat.{Flat}
use Rattle.sv_flat.specs.Views.{design_of}
use Rattle.sv_obl.specs.Valuations.{FitsDesign}
use Rattle.sv_report.proofs.FrameFacts.{here_settled, registers_fit, inputs_fit, same_frames}
use Rattle.sv_report.proofs.FrameFacts.{same_fit}
use Rattle.sv_report.proofs.frames.frames_of.Goals as goal

pub load-requires : goal.load-requires
load-requires c =
    registers_fit c.in_ok-sim.sim.design c.args.design.now c.deref.result.now c.args.v.now
    c.in_ok-sim.ensures.design c.deref.ensures.value c.requires

pub settle-requires : goal.settle-requires
settle-requires c =
    inputs_fit c.load.new.self.design c.args.design.now c.deref-2.result.now
    c.args.v.now.inputs.items (c.load.ensures.design ∙ c.in_ok-sim.ensures.design)
    c.deref-2.ensures.value c.requires.of_inputs

pub go_to-requires-clause-fits : goal.go_to-requires-clause-fits
go_to-requires-clause-fits c =
    subst (λ (d : Flat). FitsDesign (design_of d) c.args.v.now)
    (sym (c.settle.ensures.design ∙ c.load.ensures.design ∙ c.in_ok-sim.ensures.design))
    c.requires

pub returns-clause-settled : goal.returns-clause-settled
returns-clause-settled c =
    let same = c.in_ok-sim.ensures.design in
    let here : c.in_ok-here.here.items ≡ c.values.result.now = search rules in
    here_settled c.in_ok-sim.sim.design c.load.new.self.design c.args.design.now c.deref.result.now
    c.args.v.now.regs.items c.deref-2.result.now c.args.v.now.inputs.items
    c.in_ok-sim.sim.values c.load.new.self.values c.settle.new.self.values
    c.in_ok-here.here.items c.know_design.ensures.design c.requires.of_registers same
    (c.load.ensures.design ∙ same) c.deref.ensures.value c.deref-2.ensures.value
    c.load.ensures.values c.settle.ensures.values (here ∙ c.values.ensures.values)

pub returns-clause-in_frame : goal.returns-clause-in_frame
returns-clause-in_frame c =
    let here : c.in_ok-here.here.items ≡ c.values.result.now = search rules in
    let there : c.in_ok-there.there.items ≡ c.values-2.result.now = search rules in
    same_frames c.settle.new.self.design c.args.design.now c.args.v.now c.args.frame
    c.settle.new.self.values c.go_to.new.sim.values c.in_ok-here.here.items
    c.in_ok-there.there.items
    (c.settle.ensures.design ∙ c.load.ensures.design ∙ c.in_ok-sim.ensures.design)
    (here ∙ c.values.ensures.values) (there ∙ c.values-2.ensures.values)
    c.go_to.ensures.in_frame

pub returns-clause-here_fit : goal.returns-clause-here_fit
returns-clause-here_fit c =
    let here : c.in_ok-here.here.items ≡ c.values.result.now = search rules in
    same_fit c.settle.new.self.design c.args.design.now c.values.result.now
    c.in_ok-here.here.items
    (c.settle.ensures.design ∙ c.load.ensures.design ∙ c.in_ok-sim.ensures.design)
    here c.values.ensures.fit

pub returns-clause-there_fit : goal.returns-clause-there_fit
returns-clause-there_fit c =
    let there : c.in_ok-there.there.items ≡ c.values-2.result.now = search rules in
    same_fit c.go_to.new.sim.design c.args.design.now c.values-2.result.now
    c.in_ok-there.there.items
    (c.go_to.ensures.design ∙ c.settle.ensures.design ∙ c.load.ensures.design
    ∙ c.in_ok-sim.ensures.design)
    there c.values-2.ensures.fit
