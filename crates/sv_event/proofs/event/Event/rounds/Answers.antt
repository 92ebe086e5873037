use Rattle.std.proofs.Common.{◌++◌, List, ℕ, length, take, drop, sym, ap, subst, ◌∙◌}
use Rattle.sv_system.specs.Schedules.{IsTheSettled}
use Rattle.sv_flat.specs.ByNumber.{by_number}
use Rattle.sv_flat.specs.FlatSystem.{flat_system}
use Rattle.sv_flat.specs.Schedules.{after_rounds}
use Rattle.sv_flat.specs.Views.{design_of}
use Rattle.sv_sim.proofs.Simulated.{written}
use Rattle.sv_event.specs.Events.{EventState}
use Rattle.sv_event.proofs.event.Event.rounds.Goals as goal

pub returns-clause-values : goal.returns-clause-values
returns-clause-values c =
    let now = c.self.inside in
    let design = design_of now.design.now in
    let run = λ (vs : List ℕ). after_rounds design c.args.number c.run_rounds.result
    (by_number vs) in
    ap by_number (written now.values.len c.run_rounds.new.values now.values.items
    (c.run_rounds.auto.values ∙ c.deref_mut-2.ensures.len))
    ∙ c.run_rounds.ensures.values
    ∙ ap run c.deref_mut-2.ensures.value
    ∙ ap (λ (v : EventState).
    after_rounds (design_of v.design) c.args.number c.run_rounds.result (by_number v.values))
    c.self.view_is

pub returns-clause-settled : goal.returns-clause-settled
returns-clause-settled c =
    let now = c.self.inside in
    let design = design_of now.design.now in
    let new = c.run_rounds.new.values in
    let whole = written now.values.len new now.values.items
    (c.run_rounds.auto.values ∙ c.deref_mut-2.ensures.len) in
    subst (λ (v : EventState). IsTheSettled (flat_system (design_of v.design))
    (by_number v.values) (by_number v.values)
    (by_number (take now.values.len (new ++ drop (length new) now.values.items))))
    c.self.view_is
    (subst (λ (vs : List ℕ). IsTheSettled (flat_system design) (by_number now.values.items)
    (by_number now.values.items) (by_number vs)) (sym whole)
    (subst (λ (vs : List ℕ). IsTheSettled (flat_system design) (by_number vs) (by_number vs)
    (by_number new)) c.deref_mut-2.ensures.value c.run_rounds.ensures.settled))
