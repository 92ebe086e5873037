use Rattle.std.proofs.Common.{◌≡◌, sym, ap, subst, ◌∙◌}
use Rattle.sv_system.specs.System.{Fits}
use Rattle.sv_design.specs.Designs.{IsDesign}
use Rattle.sv_flat.specs.ByNumber.{by_number}
use Rattle.sv_flat.specs.FlatSystem.{flat_system}
use Rattle.sv_flat.specs.Schedules.{is_quiet}
use Rattle.sv_flat.specs.Views.{design_of}
use Rattle.sv_sim.proofs.Fitting.{numbers_fit}
use Rattle.sv_event.specs.Events.{EventState}
use Rattle.sv_event.proofs.RoundFacts.{quiet_settled, settled_quiet}
use Rattle.sv_event.proofs.event.Event.quiet.Goals as goal

pub returns-clause-settled : goal.returns-clause-settled
returns-clause-settled c =
    let now = c.self.inside in
    let design = design_of c.args.self.now.design in
    let e = by_number c.args.self.now.values in
    let fine = subst (λ (v : EventState). IsDesign (design_of v.design)) c.self.view_is
    c.self.invariant.admitted in
    let fits = subst (λ (v : EventState). Fits (flat_system (design_of v.design))
    (by_number v.values)) c.self.view_is
    (numbers_fit (design_of now.design.now) now.values.items c.self.invariant.fit) in
    let same : c.is_quiet.result ≡ is_quiet design e =
    c.is_quiet.ensures.quiet
    ∙ ap (λ vs. is_quiet (design_of now.design.now) (by_number vs)) c.deref-2.ensures.value
    ∙ ap (λ (v : EventState). is_quiet (design_of v.design) (by_number v.values))
    c.self.view_is in (
      λ quiet. quiet_settled design fine.is_sound fine.is_admitted e fits (sym same ∙ quiet),
      λ is. same ∙ settled_quiet design fine.is_sound fine.is_admitted e e e is,
    )
