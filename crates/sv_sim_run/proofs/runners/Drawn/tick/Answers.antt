use Rattle.std.proofs.Common.{◌≡◌, sym, ap, subst, ◌∙◌}
use Rattle.std.specs.Prelude.{IsTrue}
use Rattle.sv_flat.specs.ByNumber.{by_number}
use Rattle.sv_flat.specs.Schedules.{is_order, after_tick, tick_order}
use Rattle.sv_flat.specs.Views.{design_of}
use Rattle.sv_event.proofs.CycleOrders.{tick_order_is_order}
use Rattle.sv_sim_run.proofs.RunnerFacts.{edge_keeps_zeros, even_order, moved, odd_order}
use Rattle.sv_sim_run.proofs.runners.Drawn.tick.Goals as goal
use Rattle.sv_sim_run.proofs.runners.Drawn.tick.Goals.{After-as_slice}
use Rattle.sv_sim_run.proofs.runners.Drawn.tick.Goals.{After-as_slice-else-cycle-eq0}

-- the list that the event is given is the cycle's order
ascends : (c : After-as_slice) → c.as_slice.result.now ≡
    tick_order (design_of c.args.self.now.event.design) c.args.cycle
ascends c =
    c.as_slice.ensures.value ∙ c.requires.orders.up
    ∙ sym (even_order (design_of c.args.self.now.event.design) c.args.cycle c.if-cycle-eq0.true)

descends : (c : After-as_slice-else-cycle-eq0) → c.as_slice-else-cycle-eq0.result.now ≡
    tick_order (design_of c.args.self.now.event.design) c.args.cycle
descends c =
    c.as_slice-else-cycle-eq0.ensures.value ∙ c.requires.orders.down
    ∙ sym (odd_order (design_of c.args.self.now.event.design) c.args.cycle c.if-cycle-eq0.false)

pub tick-requires : goal.tick-requires
tick-requires c =
    let design = design_of c.args.self.now.event.design in
    subst (λ ks. IsTrue (is_order design ks)) (sym (ascends c))
    (tick_order_is_order design c.args.cycle)

pub tick-requires-else-cycle-eq0 : goal.tick-requires-else-cycle-eq0
tick-requires-else-cycle-eq0 c =
    let design = design_of c.args.self.now.event.design in
    subst (λ ks. IsTrue (is_order design ks)) (sym (descends c))
    (tick_order_is_order design c.args.cycle)

pub returns-then-cycle-eq0-clause-made : goal.returns-then-cycle-eq0-clause-made
returns-then-cycle-eq0-clause-made c =
    let old = c.args.self.now in
    let fine = c.requires.admitted in
    moved old c.tick.new.self old.rounds c.requires c.tick.ensures.design
    (edge_keeps_zeros (design_of old.event.design) fine.is_sound fine.is_admitted
    (by_number old.event.values) (by_number c.tick.new.self.values) c.tick.ensures.next
    c.requires.others)

pub returns-else-cycle-eq0-clause-made : goal.returns-else-cycle-eq0-clause-made
returns-else-cycle-eq0-clause-made c =
    let old = c.args.self.now in
    let fine = c.requires.admitted in
    moved old c.tick-else-cycle-eq0.new.self old.rounds c.requires
    c.tick-else-cycle-eq0.ensures.design
    (edge_keeps_zeros (design_of old.event.design) fine.is_sound fine.is_admitted
    (by_number old.event.values) (by_number c.tick-else-cycle-eq0.new.self.values)
    c.tick-else-cycle-eq0.ensures.next c.requires.others)

pub returns-then-cycle-eq0-clause-values : goal.returns-then-cycle-eq0-clause-values
returns-then-cycle-eq0-clause-values c =
    let old = c.args.self.now in
    let design = design_of old.event.design in
    c.tick.ensures.values
    ∙ ap (λ ks. after_tick design ks (by_number old.event.values))
    (ascends (goal.at.returns-then-cycle-eq0-clause-values c).After-as_slice)

pub returns-else-cycle-eq0-clause-values : goal.returns-else-cycle-eq0-clause-values
returns-else-cycle-eq0-clause-values c =
    let old = c.args.self.now in
    let design = design_of old.event.design in
    c.tick-else-cycle-eq0.ensures.values
    ∙ ap (λ ks. after_tick design ks (by_number old.event.values))
    (descends (goal.at.returns-else-cycle-eq0-clause-values c).After-as_slice-else-cycle-eq0)
