use Rattle.std.proofs.Common.{◌≡◌, ◌+◌, ◌<◌, ◌≤◌, true, false, length, replicate, set, sym, ap}
use Rattle.std.proofs.Common.{subst, ◌∙◌, rules, arith}
use Rattle.std.proofs.lemmas.List.{length-map}
use Rattle.sv_flat.specs.declared.signals.SigId.{SigId}
use Rattle.sv_flat.specs.Reads.{order}
use Rattle.sv_flat.specs.Views.{design_of, signal_form}
use Rattle.sv_sim.proofs.PlanFacts.{AreLeft, none_entered, one_entered, all_entered}
use Rattle.sv_sim.proofs.Simulated.{number_at, order_within}
use Rattle.sv_sim.proofs.plans.combinational.Goals as goal

pub loop-k-init : goal.loop-k-init
loop-k-init c =
    let flat = c.args.design.now in
    let n = length c.signals.result.now in
    let is : c.in_ok-left.left.items ≡ replicate n false = search rules in
    none_entered (design_of flat) c.in_ok-left.left.items n is
    (ap length c.signals.ensures.signals ∙ sym (length-map flat.signals.items signal_form))

pub index_mut-requires : goal.index_mut-requires
index_mut-requires c =
    let flat = c.args.design.now in
    let ss = c.order-order.result.now in
    let s = order_within flat c.order-order.ensures.design.is_admitted ss
    c.order-order.ensures.order c.loop-k.k c.loop-k-test.true in
    let count = length-map flat.signals.items signal_form in
    let size = c.loop-k.invariant.size in
    omega (arith, c.loop-k.left.ok.0)

pub loop-k-preserved : goal.loop-k-preserved
loop-k-preserved c =
    let design = design_of c.args.design.now in
    let k = c.loop-k.k in
    let ss = c.order-order.result.now in
    let left = c.loop-k.left.items in
    let inside = subst (λ n. k < n)
    (sym (length-map ss (λ (s : SigId). s.0)) ∙ ap length c.order-order.ensures.order)
    c.loop-k-test.true in
    subst (λ s. AreLeft design (set left s true) (k + 1))
    (number_at ss (order design) c.order-order.ensures.order k c.loop-k-test.true)
    (one_entered design c.order-order.ensures.design.is_admitted.ordered left k c.loop-k.invariant
    inside)

pub returns : goal.returns
returns c =
    let flat = c.args.design.now in
    let design = design_of flat in
    let ss = c.order-order.result.now in
    let whole = subst (λ n. n ≤ c.loop-k.k)
    (sym (length-map ss (λ (s : SigId). s.0)) ∙ ap length c.order-order.ensures.order)
    c.loop-k-test.false in
    record {
      size = c.loop-k.invariant.size ∙ length-map flat.signals.items signal_form;
      only = c.loop-k.invariant.only;
      all = all_entered design c.order-order.ensures.design.is_admitted.ordered
          c.loop-k.left.items c.loop-k.k c.loop-k.invariant whole;
    }
