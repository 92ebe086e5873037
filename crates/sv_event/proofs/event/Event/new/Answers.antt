use Rattle.std.proofs.Common.{◌≡◌, length, sym, ap, subst, ◌∙◌, rules}
use Rattle.std.specs.Prelude.{replicate}
use Rattle.std.proofs.lemmas.List.{length-map, length-replicate}
use Rattle.sv_flat.specs.ByNumber.{FitSignals}
use Rattle.sv_flat.specs.Views.{design_of, signal_form}
use Rattle.sv_sim.proofs.Simulated.{zeros_fit}
use Rattle.sv_event.proofs.PlaceFacts.{comb_count}
use Rattle.sv_event.proofs.event.Event.new.Goals as goal

pub invariant_of-result : goal.invariant_of-result
invariant_of-result c =
    let flat = c.args.design.now in
    let design = design_of flat in
    let n = length c.signals-count.result.now in
    let first : c.in_ok-vec.field-0.items ≡ replicate n 0 = search rules in
    let second : c.in_ok-vec-2.field-0.items ≡ replicate n 0 = search rules in
    let count = ap length c.signals-count.ensures.signals
    ∙ sym (length-map flat.signals.items signal_form) in
    let third : c.in_ok-vec-3.field-0.items ≡ replicate c.combs.result 0 = search rules in
    record {
      admitted = c.signals-count.ensures.design;
      combs_are = c.in_ok-places_of.ensures;
      clocked_are = c.in_ok-places_of-2.ensures;
      fit = subst (FitSignals design.signals) (sym (first ∙ ap (λ k. replicate k 0) count))
          (zeros_fit design.signals);
      room = ap length (second ∙ sym first);
      order_room = ap length third ∙ length-replicate c.combs.result 0 ∙ c.combs.ensures.combs
          ∙ sym (comb_count design c.in_ok-places_of.field-0.items c.in_ok-places_of.ensures);
    }
