use Rattle.std.proofs.Common.{◌<◌, length, not, sym, ap, subst, ◌∙◌}
use Rattle.sv_flat.specs.Clocks.{is_clock}
use Rattle.sv_flat.specs.Views.{design_of}
use Rattle.sv_flat.proofs.LeastSets.{those_below}
use Rattle.sv_event.specs.Events.{EventState}
use Rattle.sv_event.proofs.event.Event.value.Goals as goal

pub bounds-values-s : goal.bounds-values-s
bounds-values-s c =
    let design = design_of c.args.self.now.design in
    subst (λ n. c.args.s.0 < n)
    (ap (λ (v : EventState). length (design_of v.design).signals) (sym c.self.view_is)
    ∙ sym c.self.invariant.fit.count
    ∙ ap length (sym c.as_slice-values.ensures.value))
    (those_below (length design.signals) (λ z. not (is_clock design z)) c.args.s.0 c.requires)
