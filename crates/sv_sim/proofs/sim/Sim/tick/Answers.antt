use Rattle.std.proofs.Common.{◌≡◌, ℕ, false, List, length, sym, ap, subst, ◌∙◌}
use Rattle.std.proofs.lemmas.List.{with_items_is}
use Rattle.sv_flat.specs.ByNumber.{by_number}
use Rattle.sv_flat.specs.FlatSystem.{flat_system}
use Rattle.sv_flat.specs.Views.{design_of}
use Rattle.sv_sim.specs.Simulations.{IsSimulation}
use Rattle.sv_sim.proofs.EdgeFacts.{ticked_simulation}
use Rattle.sv_sim.proofs.sim.Sim.tick.Goals as goal

pub invariant_of-self : goal.invariant_of-self
invariant_of-self c =
    let now = c.self.inside in
    let design = design_of now.design.now in
    let new = c.clock_edge.new.next in
    let whole : c.swap.new.x.items ≡ new =
    ap (λ v. v.items) c.swap.ensures.x_after
    ∙ with_items_is c.copy_from_slice.new.self new
    (c.clock_edge.auto.next ∙ c.deref_mut.ensures.len) in
    let next = c.clock_edge.ensures.next
    ∙ ap (λ vs. (flat_system design).next (by_number vs)) c.deref-2.ensures.value in
    let old : c.swap.new.y.items ≡ now.values.items = ap (λ v. v.items) c.swap.ensures.y_after in
    let ticked = ticked_simulation design c.clock_edge.ensures.design.is_sound
    c.clock_edge.ensures.design.is_admitted now.values.items new now.is_settled
    c.self.invariant.0 c.clock_edge.ensures.fit next in
    let size = ap length old ∙ (c.self.invariant.0).fit.count
    ∙ sym c.clock_edge.ensures.fit.count in
    let both = subst (λ (vs : List ℕ).
    IsSimulation design vs false × (length c.swap.new.y.items ≡ length vs)) (sym whole)
    (ticked, size) in
    (both.0, both.1, c.self.invariant.2)
