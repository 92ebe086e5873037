use Rattle.std.proofs.Common.{◌≡◌, ap, subst, ◌∙◌}
use Rattle.std.proofs.lemmas.List.{with_items_is}
use Rattle.sv_design.specs.Designs.{IsDesign}
use Rattle.sv_flat.specs.ByNumber.{by_number}
use Rattle.sv_flat.specs.Schedules.{after_tick}
use Rattle.sv_flat.specs.Views.{design_of}
use Rattle.sv_event.specs.Events.{EventState}
use Rattle.sv_event.proofs.TickFacts.{tick_is_next}
use Rattle.sv_event.proofs.event.Event.tick.Goals as goal

pub returns-clause-next : goal.returns-clause-next
returns-clause-next c =
    let design = design_of c.args.self.now.design in
    let e = by_number c.args.self.now.values in
    let fine = subst (λ (v : EventState). IsDesign (design_of v.design)) c.self.view_is
    c.self.invariant.admitted in
    let order = c.args.order.now in
    let inside = design_of c.self.inside.design.now in
    let whole : c.swap.new.x.items ≡ c.tick_all.new.next =
    ap (λ v. v.items) c.swap.ensures.x_after
    ∙ with_items_is c.copy_from_slice.new.self c.tick_all.new.next
    (c.tick_all.auto.next ∙ c.deref_mut.ensures.len) in
    ap by_number whole
    ∙ c.tick_all.ensures.next
    ∙ ap (λ vs. after_tick inside order (by_number vs)) c.deref-3.ensures.value
    ∙ ap (λ (v : EventState). after_tick (design_of v.design) order (by_number v.values))
    c.self.view_is
    ∙ tick_is_next design fine.is_sound fine.is_admitted order c.requires e
