use Rattle.std.proofs.Common.{◌<◌, length, get_or, sym, ap, subst, ◌∙◌}
use Rattle.sv_flat.specs.FlatSystem.{combinational_processes}
use Rattle.sv_flat.specs.Views.{design_of}
use Rattle.sv_event.specs.Events.{EventState}
use Rattle.sv_event.proofs.PlaceFacts.{comb_count}
use Rattle.sv_event.proofs.event.Event.run_schedule.Goals as goal

pub run_all-requires-clause-schedule : goal.run_all-requires-clause-schedule
run_all-requires-clause-schedule c = λ k d inside.
    let now = c.self.inside in
    subst (λ n. get_or c.args.schedule.now k d < n)
    (ap (λ (v : EventState). length (combinational_processes (design_of v.design)))
    (sym c.self.view_is)
    ∙ sym (comb_count (design_of now.design.now) now.combs.items c.self.invariant.combs_are)
    ∙ ap length (sym c.deref.ensures.value))
    (c.requires k d inside)
