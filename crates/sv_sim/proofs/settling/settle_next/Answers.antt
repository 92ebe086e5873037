use Rattle.std.proofs.Common.{ℕ, ◌+◌, sym, subst, ◌∙◌}
use Rattle.sv_system.specs.System.{Environment}
use Rattle.sv_flat.specs.ByNumber.{by_number}
use Rattle.sv_flat.specs.FlatSystem.{run_of}
use Rattle.sv_flat.specs.Views.{design_of}
use Rattle.sv_sim.specs.Settling.{FrontIsStable, OwnIsStable, SameOthers}
use Rattle.sv_sim.specs.Simulations.{process_at}
use Rattle.sv_sim.proofs.InOrder.{run_keeps_given, own_stable, front_stays, front_more}
use Rattle.sv_sim.proofs.Simulated.{last_is}
use Rattle.sv_sim.proofs.settling.settle_next.Goals as goal

pub returns-then-eq-clause-front : goal.returns-then-eq-clause-front
returns-then-eq-clause-front c = λ plan is_plan i inside at front.
    let design = design_of c.args.design.now in
    let fine = c.driver-place.ensures.design in
    let e = by_number c.args.values.now in
    let own = last_is c.args.last c.driver-place.result (OwnIsStable design e) c.requires.last
    (sym c.eq.ensures ∙ c.if-eq.true) in
    front_more design fine.is_sound fine.is_admitted plan is_plan e i c.args.signal.0 inside at
    front
    (own c.args.signal.0 c.driver-place.ensures.driver.assigned)

pub returns-clause-others : goal.returns-clause-others
returns-clause-others c =
    let design = design_of c.args.design.now in
    let fine = c.driver-place.ensures.design in
    let e = by_number c.args.values.now in
    subst (λ (f : Environment ℕ). SameOthers design f e) (sym c.run_at.ensures.run)
    (run_keeps_given design fine.is_sound fine.is_admitted
    (process_at design c.driver-place.result) c.driver-place.ensures.driver.process e)

pub returns-clause-last : goal.returns-clause-last
returns-clause-last c =
    let design = design_of c.args.design.now in
    let fine = c.driver-place.ensures.design in
    let e = by_number c.args.values.now in
    subst (λ (f : Environment ℕ). OwnIsStable design f c.driver-place.result)
    (sym c.run_at.ensures.run)
    (own_stable design fine.is_sound fine.is_admitted (process_at design c.driver-place.result)
    c.driver-place.ensures.driver.process e)

pub returns-clause-front : goal.returns-clause-front
returns-clause-front c = λ plan is_plan i inside at front.
    let design = design_of c.args.design.now in
    let fine = c.driver-place.ensures.design in
    let e = by_number c.args.values.now in
    let p = process_at design c.driver-place.result in
    let among = c.driver-place.ensures.driver.process in
    subst (λ (f : Environment ℕ). FrontIsStable design plan f (i + 1)) (sym c.run_at.ensures.run)
    (front_more design fine.is_sound fine.is_admitted plan is_plan (run_of design p e) i
    c.args.signal.0 inside at
    (front_stays design fine.is_sound fine.is_admitted plan is_plan p among e i front)
    (own_stable design fine.is_sound fine.is_admitted p among e c.args.signal.0
    c.driver-place.ensures.driver.assigned))
