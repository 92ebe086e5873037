use Rattle.std.proofs.Common.{◌≡◌, ◌≤◌, Bool, length, sym, ap, subst, ◌∙◌, arith}
use Rattle.std.proofs.Math.ListN.{length-map}
use Rattle.std.specs.Prelude.{count_by}
use Rattle.sv_flat.specs.declared.signals.SigId.{SigId}
use Rattle.sv_flat.specs.Admission.{IsFirstBreach}
use Rattle.sv_flat.specs.Views.{design_of}
use Rattle.sv_design.specs.Circles.{FindsCircle, circle_breach}
use Rattle.sv_design.specs.Numbers.{numbers}
use Rattle.sv_rules.specs.Refusals.{breach_with}
use Rattle.sv_design.proofs.FirstLoops.{first_loop}
use Rattle.sv_design.proofs.OrderFacts.{no_circle_has_order}
use Rattle.sv_design.proofs.WholeOrders.{whole_of_longest, whole_by_count}
use Rattle.sv_design.proofs.admit.check_order.Goals as goal

pub returns-then-order-comb_count-clause-whole : goal.returns-then-order-comb_count-clause-whole
returns-then-order-comb_count-clause-whole c =
    let order = c.args.order.now in
    let combs = c.args.reads.now.combs.items in
    let size = length-map order (λ (s : SigId). s.0) in
    let count : c.comb_count.result ≡ count_by (λ (b : Bool). b) combs =
    c.comb_count.ensures ∙ ap (count_by (λ (b : Bool). b)) c.deref.ensures.value in
    let many : count_by (λ (b : Bool). b) combs ≤ length (numbers order) =
    omega (arith, c.if-order-comb_count.true) in
    whole_by_count (design_of c.args.flat.now) (numbers order) combs c.requires.longest
    c.requires.reads.combs_are many

pub refusal-requires-clause-first : goal.refusal-requires-clause-first
refusal-requires-clause-first c =
    let design = design_of c.args.flat.now in
    let found = c.in-Some.found in
    subst (λ ss. IsFirstBreach design (breach_with 607 found.first.place ss))
    (sym c.as_slice-signals.ensures.value)
    (first_loop design (circle_breach found) c.requires.unbroken
    (subst (FindsCircle design) c.in-Some.is c.in_ok-circle.ensures))

pub returns-in-None-clause-whole : goal.returns-in-None-clause-whole
returns-in-None-clause-whole c =
    let design = design_of c.args.flat.now in
    whole_of_longest design (numbers c.args.order.now) c.requires.longest
    (c.requires.longest.longest (no_circle_has_order design
    (subst (FindsCircle design) c.in-None.is c.in_ok-circle.ensures)))
