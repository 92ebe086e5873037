use Rattle.std.proofs.Common.{◌≡◌, ℕ, ◌<◌, ◌≤◌, refl, sym, subst, ◌∙◌}
use Rattle.std.proofs.lemmas.List.{length-map}
use Rattle.sv_system.specs.System.{Run}
use Rattle.sv_system.proofs.Lists.{Contains-from_map}
use Rattle.sv_system.proofs.Pointwise.{still_from}
use Rattle.sv_flat.specs.declared.signals.SigId.{SigId}
use Rattle.sv_flat.specs.ByNumber.{by_number}
use Rattle.sv_flat.specs.FlatSystem.{flat_system, combinational_processes, run_of}
use Rattle.sv_flat.specs.Views.{design_of}
use Rattle.sv_design.specs.Numbers.{numbers}
use Rattle.sv_sim.proofs.InOrder.{plan_still}
use Rattle.sv_sim.proofs.Simulated.{number_at, listed_at}
use Rattle.sv_sim.proofs.settling.settle.Goals as goal

pub settle_next-last-requires-clause-signal : goal.settle_next-last-requires-clause-signal
settle_next-last-requires-clause-signal c =
    let plan = c.args.plan.now in
    c.requires.plan.only _
    (listed_at plan (numbers plan) refl c.loop-k.k c.loop-k-test.true)

pub loop-k-preserved : goal.loop-k-preserved
loop-k-preserved c =
    let k = c.loop-k.k in
    let plan = c.args.plan.now in
    let inside = subst (λ n. k < n) (sym (length-map plan (λ (s : SigId). s.0)))
    c.loop-k-test.true in (
      c.settle_next-last.ensures.fit,
      (λ s none. c.settle_next-last.ensures.others s none ∙ c.loop-k.invariant.1 s none),
      c.settle_next-last.ensures.front (numbers plan) c.requires.plan k inside
          (number_at plan (numbers plan) refl k c.loop-k-test.true) c.loop-k.invariant.2,
      c.settle_next-last.ensures.last,
    )

pub returns-clause-still : goal.returns-clause-still
returns-clause-still c =
    let design = design_of c.args.design.now in
    let fine = c.requires.design in
    let plan = c.args.plan.now in
    let e = by_number c.loop-k.values in
    let whole = subst (λ n. n ≤ c.loop-k.k) (sym (length-map plan (λ (s : SigId). s.0)))
    c.loop-k-test.false in
    still_from (flat_system design) e (λ step at s.
    let from = Contains-from_map (run_of design) (combinational_processes design) step at in
    subst (λ (f : Run ℕ). f e s ≡ e s) from.2
    (plan_still design fine.is_sound fine.is_admitted (numbers plan) c.requires.plan e c.loop-k.k
    whole c.loop-k.invariant.2 from.0 from.1 s))
