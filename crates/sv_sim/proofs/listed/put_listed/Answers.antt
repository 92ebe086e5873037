use Rattle.std.proofs.Common.{◌<◌, ◌^◌, ◌==◌, [], ◌∷◌, ◌++◌, length, take}
use Rattle.std.proofs.Common.{get_or}
use Rattle.std.proofs.Common.{refl, sym, ap, subst, ◌∙◌}
use Rattle.std.specs.List.{zip}
use Rattle.std.proofs.lemmas.List.{length-map}
use Rattle.sv_system.specs.System.{put}
use Rattle.sv_flat.specs.declared.signals.SigId.{SigId}
use Rattle.sv_flat.specs.Views.{signal_form}
use Rattle.sv_flat.specs.ByNumber.{signal_forms, by_number, updated}
use Rattle.sv_flat.specs.Values.{signal_width}
use Rattle.sv_flat.proofs.NumberedRuns.{by_number-set, fit-set, updated-more}
use Rattle.sv_design.specs.Numbers.{numbers}
use Rattle.sv_sim.proofs.GivenValues.{zip_more}
use Rattle.sv_sim.proofs.Simulated.{number_at}
use Rattle.sv_sim.proofs.listed.put_listed.Goals as goal

pub bounds-values-signal : goal.bounds-values-signal
bounds-values-signal c =
    let k = c.loop-k.k in
    let is = number_at c.args.listed.now (numbers c.args.listed.now) refl k c.loop-k-test.true in
    subst (λ n. (get_or c.args.listed.now k (record { 0 = 0 })).0 < n)
    (sym ((c.loop-k.invariant.1).count ∙ length-map c.args.signals.now signal_form))
    (subst (λ n. n < length c.args.signals.now) is (c.requires.known k c.loop-k-test.true))

pub loop-k-preserved : goal.loop-k-preserved
loop-k-preserved c =
    let k = c.loop-k.k in
    let forms = signal_forms c.args.signals.now in
    let listed = c.args.listed.now in
    let ns = numbers listed in
    let us = c.args.given.now in
    let s = (get_or listed k (record { 0 = 0 })).0 in
    let v = get_or us k 0 in
    let old = by_number c.args.values.now in
    let is = number_at listed ns refl k c.loop-k-test.true in
    let k_listed = subst (λ n. k < n) (sym (length-map listed (λ (t : SigId). t.0)))
    c.loop-k-test.true in
    let k_given = subst (λ n. k < n) (sym c.requires.given.count) k_listed in
    let known = subst (λ n. n < length c.args.signals.now) is
    (c.requires.known k c.loop-k-test.true) in
    let inside = subst (λ n. s < n)
    (sym ((c.loop-k.invariant.1).count ∙ length-map c.args.signals.now signal_form)) known in
    let low = subst (λ n. v < 2 ^ signal_width forms n) is (c.requires.given.each k k_listed) in (
      by_number-set c.loop-k.values s v inside
          ∙ ap (put ◌==◌ s v) c.loop-k.invariant.0
          ∙ sym (updated-more old (zip (take k ns) us) s v)
          ∙ ap (λ n. updated old (zip (take k ns) us ++ (n, v) ∷ [])) (sym is)
          ∙ ap (updated old) (sym (zip_more ns us k k_listed k_given)),
      fit-set forms c.loop-k.values s v c.loop-k.invariant.1 low,
    )
