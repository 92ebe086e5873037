use Rattle.std.proofs.Common.{rules, ◌≡◌, ℕ, List, sym, subst, ◌∙◌}
use Rattle.sv_flat.specs.declared.designs.Flat.{Flat}
use Rattle.sv_flat.specs.ByNumber.{by_number}
use Rattle.sv_flat.specs.SignalLists.{inputs}
use Rattle.sv_flat.specs.Views.{design_of}
use Rattle.sv_obl.specs.declared.frames.Frame.{Frame}
use Rattle.sv_obl.specs.declared.frames.Frame.TheVariants.{Now, Next}
use Rattle.sv_obl.specs.declared.valuations.Valuation.{Valuation as Listed}
use Rattle.sv_obl.specs.Valuations.{valuation_of}
use Rattle.sv_decide.specs.Simulating.{IsOfFrame}
use Rattle.sv_decide.proofs.SettledCycles.{list_fits, frame_now, frame_next}
use Rattle.sv_decide.proofs.falsifying.settle_frame.Goals as goal

pub settle-requires : goal.settle-requires
settle-requires c =
    list_fits c.args.sim.now.design c.tick.new.self.design
    (c.tick.ensures.design ∙ c.settle_now.ensures.design) inputs c.deref.result.now
    c.args.v.now.next_inputs.items c.deref.ensures.value c.requires.of_next_inputs

-- what is of one frame is of the frame that is asked for
of_asked : (flat : Flat) (v : Listed) (asked frame : Frame) (values : List ℕ) → asked ≡ frame →
    IsOfFrame (design_of flat) (valuation_of (design_of flat) v) frame (by_number values) →
    IsOfFrame (design_of flat) (valuation_of (design_of flat) v) asked (by_number values)
of_asked flat v asked frame values is =
    subst (λ (f : Frame). IsOfFrame (design_of flat) (valuation_of (design_of flat) v) f
    (by_number values)) (sym is)

pub returns-in-Now-clause-values : goal.returns-in-Now-clause-values
returns-in-Now-clause-values c =
    let is : c.args.frame ≡ Now = search rules in
    of_asked c.args.sim.now.design c.args.v.now c.args.frame Now c.settle_now.new.sim.values is
    (frame_now c.args.sim.now.design c.args.v.now c.settle_now.new.sim.values
    c.settle_now.ensures.values)

pub returns-in-Next-clause-values : goal.returns-in-Next-clause-values
returns-in-Next-clause-values c =
    let is : c.args.frame ≡ Next = search rules in
    of_asked c.args.sim.now.design c.args.v.now c.args.frame Next c.settle.new.self.values is
    (frame_next c.args.sim.now.design c.args.v.now c.settle_now.new.sim.design
    c.tick.new.self.design c.settle_now.ensures.design
    (c.tick.ensures.design ∙ c.settle_now.ensures.design) c.settle_now.new.sim.values
    c.tick.new.self.values c.settle.new.self.values c.deref.result.now c.deref.ensures.value
    c.settle_now.ensures.values c.tick.ensures.values c.settle.ensures.values)
