use Rattle.std.proofs.Common.{refl, subst}
use Rattle.sv_flat.specs.declared.designs.Flat.{Flat}
use Rattle.sv_flat.specs.SignalLists.{registers, inputs}
use Rattle.sv_flat.specs.Views.{design_of}
use Rattle.sv_design.specs.Designs.{IsDesign}
use Rattle.sv_decide.proofs.SettledCycles.{list_fits, settled_now}
use Rattle.sv_decide.proofs.falsifying.settle_now.Goals as goal

pub load-requires : goal.load-requires
load-requires c =
    list_fits c.args.sim.now.design c.args.sim.now.design refl registers c.deref.result.now
    c.args.v.now.regs.items c.deref.ensures.value c.requires.of_registers

pub settle-requires : goal.settle-requires
settle-requires c =
    list_fits c.args.sim.now.design c.load.new.self.design c.load.ensures.design inputs
    c.deref-2.result.now c.args.v.now.inputs.items c.deref-2.ensures.value c.requires.of_inputs

pub returns-clause-values : goal.returns-clause-values
returns-clause-values c =
    settled_now c.args.sim.now.design c.args.v.now
    (subst (λ (d : Flat). IsDesign (design_of d)) c.design.ensures c.know_design.ensures.design)
    c.requires c.load.new.self.design c.load.ensures.design c.args.sim.now.values
    c.load.new.self.values c.settle.new.self.values c.deref.result.now c.deref-2.result.now
    c.deref.ensures.value c.deref-2.ensures.value c.load.ensures.values c.settle.ensures.values
