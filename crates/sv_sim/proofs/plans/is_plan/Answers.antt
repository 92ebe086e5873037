use Rattle.std.proofs.Common.{◌<◌, ◌≤◌, refl, sym, subst, ◌∙◌}
use Rattle.std.specs.Prelude.{IsFalse}
use Rattle.std.proofs.lemmas.List.{length-map}
use Rattle.sv_flat.specs.declared.signals.SigId.{SigId}
use Rattle.sv_flat.specs.Views.{design_of, signal_form}
use Rattle.sv_design.specs.Numbers.{numbers}
use Rattle.sv_graph.specs.Marks.{is_marked}
use Rattle.sv_sim.proofs.PlanFacts.{none_taken, one_taken, all_taken}
use Rattle.sv_sim.proofs.Simulated.{number_at}
use Rattle.sv_sim.proofs.plans.is_plan.Goals as goal

pub loop-k-init : goal.loop-k-init
loop-k-init c =
    let flat = c.args.design.now in
    none_taken (design_of flat) (numbers c.args.list.now) c.in_ok-left.left.items
    (c.in_ok-left.ensures.size ∙ sym (length-map flat.signals.items signal_form))
    c.in_ok-left.ensures.only c.in_ok-left.ensures.all

pub loop-k-preserved : goal.loop-k-preserved
loop-k-preserved c =
    let list = c.args.list.now in
    let k = c.loop-k.k in
    let yes = c.if-not-is_next.false in
    let inside = subst (λ n. k < n) (sym (length-map list (λ (s : SigId). s.0)))
    c.loop-k-test.true in
    one_taken (design_of c.args.design.now) (numbers list) c.loop-k.left.items k
    c.loop-k.invariant inside c.deref.result.now _ c.deref.ensures.value
    (number_at list (numbers list) refl k c.loop-k-test.true) (c.is_next.ensures.within yes)
    (c.is_next.ensures.left yes) (c.is_next.ensures.reads yes)

pub returns : goal.returns
returns c = λ yes.
    let list = c.args.list.now in
    let whole = subst (λ n. n ≤ c.loop-k.k) (sym (length-map list (λ (s : SigId). s.0)))
    c.loop-k-test.false in
    all_taken (design_of c.args.design.now) (numbers list) c.loop-k.left.items c.loop-k.k
    c.loop-k.invariant whole (λ s. subst (λ ts. IsFalse (is_marked ts s)) c.deref-2.ensures.value
    (c.is_none_left.ensures yes s))
