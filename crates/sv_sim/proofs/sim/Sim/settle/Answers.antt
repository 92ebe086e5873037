use Rattle.std.proofs.Common.{◌≡◌, ℕ, true, List, ◌++◌, length, take, drop, sym, ap, subst, ◌∙◌}
use Rattle.sv_system.specs.Schedules.{IsTheSettled}
use Rattle.sv_flat.specs.declared.signals.Signal.{Signal}
use Rattle.sv_flat.specs.ByNumber.{by_number, signal_forms, FitSignals}
use Rattle.sv_flat.specs.FlatSystem.{flat_system}
use Rattle.sv_flat.specs.SignalLists.{inputs as inputs_of}
use Rattle.sv_flat.specs.Views.{design_of}
use Rattle.sv_design.specs.Numbers.{numbers}
use Rattle.sv_flat.specs.Given.{with_given, given}
use Rattle.sv_sim.specs.Settling.{SameOthers}
use Rattle.sv_sim.specs.Simulations.{Simulation, IsSimulation}
use Rattle.sv_sim.proofs.Simulated.{written, numbers_within, given_simulation, input_no_clock}
use Rattle.sv_sim.proofs.Simulated.{settled_simulation, is_the_settled}
use Rattle.sv_sim.proofs.sim.Sim.settle.Goals as goal
use Rattle.sv_sim.proofs.sim.Sim.settle.Goals.{After-settle}

pub put_listed-requires-clause-known : goal.put_listed-requires-clause-known
put_listed-requires-clause-known c =
    let flat = c.self.inside.design.now in
    numbers_within flat c.signals-signals.result.now c.signals-signals.ensures.signals
    (flat_system (design_of flat)).is_input c.inputs.result.now c.inputs.ensures.inputs

-- the values with the inputs put among them
abbrev put_in : After-settle → List ℕ
put_in c =
    take c.self.inside.values.len
    (c.put_listed.new.values ++ drop (length c.put_listed.new.values) c.self.inside.values.items)

put_whole : (c : After-settle) → put_in c ≡ c.put_listed.new.values
put_whole c =
    written c.self.inside.values.len c.put_listed.new.values c.self.inside.values.items
    (c.put_listed.auto.values ∙ c.deref_mut.ensures.len)

-- and those that settle
settled_whole : (c : After-settle) → take c.self.inside.values.len
    (c.settle.new.values ++ drop (length c.settle.new.values) (put_in c)) ≡ c.settle.new.values
settled_whole c =
    written c.self.inside.values.len c.settle.new.values (put_in c)
    (c.settle.auto.values ∙ c.deref_mut-2.ensures.len)

pub invariant_of-self : goal.invariant_of-self
invariant_of-self c =
    let a = (goal.at.invariant_of-self c).After-settle in
    let now = c.self.inside in
    let design = design_of now.design.now in
    let fine = c.inputs.ensures.design in
    let mid = c.put_listed.new.values in
    let new = c.settle.new.values in
    let put : by_number mid ≡
    with_given (numbers c.inputs.result.now) c.args.inputs.now (by_number now.values.items) =
    c.put_listed.ensures.given
    ∙ ap (λ vs. with_given (numbers c.inputs.result.now) c.args.inputs.now (by_number vs))
    c.deref_mut.ensures.value in
    let fit = subst (λ (ss : List Signal). FitSignals (signal_forms ss) mid)
    c.signals-signals.ensures.signals c.put_listed.ensures.fit in
    let before = given_simulation design (flat_system design).is_input
    (input_no_clock design fine.is_sound fine.is_admitted) (numbers c.inputs.result.now)
    c.args.inputs.now now.values.items mid now.is_settled c.inputs.ensures.inputs
    c.self.invariant.0 fit put in
    let others = subst (λ (vs : List ℕ). SameOthers design (by_number new) (by_number vs))
    (c.deref_mut-2.ensures.value ∙ put_whole a) c.settle.ensures.others in
    let after = settled_simulation design fine.is_sound fine.is_admitted mid new before
    c.settle.ensures.fit others c.settle.ensures.still in
    let size = c.self.invariant.1 ∙ (c.self.invariant.0).fit.count
    ∙ sym c.settle.ensures.fit.count in
    let both = subst (λ (vs : List ℕ).
    IsSimulation design vs true × (length now.next.items ≡ length vs)) (sym (settled_whole a))
    (after, size) in
    (both.0, both.1, c.self.invariant.2)

pub returns-clause-values : goal.returns-clause-values
returns-clause-values c =
    let a = (goal.at.returns-clause-values c).After-settle in
    let now = c.self.inside in
    let design = design_of now.design.now in
    let fine = c.inputs.ensures.design in
    let mid = c.put_listed.new.values in
    let new = c.settle.new.values in
    let us = c.args.inputs.now in
    let put : by_number mid ≡ with_given (inputs_of design) us (by_number now.values.items) =
    c.put_listed.ensures.given
    ∙ ap (λ vs. with_given (numbers c.inputs.result.now) us (by_number vs))
    c.deref_mut.ensures.value
    ∙ ap (λ ss. with_given ss us (by_number now.values.items)) c.inputs.ensures.inputs in
    let others = subst (λ (vs : List ℕ). SameOthers design (by_number new) (by_number vs))
    (c.deref_mut-2.ensures.value ∙ put_whole a) c.settle.ensures.others in
    let count = c.requires.count ∙ ap (λ (v : Simulation). length (inputs_of (design_of v.design)))
    (sym c.self.view_is) in
    let reached = is_the_settled design fine.is_sound fine.is_admitted now.values.items mid new us
    c.settle.ensures.fit put count others c.settle.ensures.still in
    subst (λ (v : Simulation). IsTheSettled (flat_system (design_of v.design)) (by_number v.values)
    (given (inputs_of (design_of v.design)) us)
    (by_number (take now.values.len (new ++ drop (length new) (put_in a))))) c.self.view_is
    (subst (λ (vs : List ℕ). IsTheSettled (flat_system design) (by_number now.values.items)
    (given (inputs_of design) us) (by_number vs)) (sym (settled_whole a)) reached)
