use Rattle.std.proofs.Common.{◌≡◌, length, sym, ap, ◌∙◌, rules}
use Rattle.std.specs.Prelude.{replicate}
use Rattle.std.proofs.lemmas.List.{length-map}
use Rattle.sv_flat.specs.Views.{design_of, signal_form}
use Rattle.sv_sim.proofs.Simulated.{new_simulation}
use Rattle.sv_sim.proofs.sim.Sim.new.Goals as goal

pub invariant_of-result : goal.invariant_of-result
invariant_of-result c =
    let flat = c.args.design.now in
    let n = length c.signals-count.result.now in
    let first : c.in_ok-vec.field-0.items ≡ replicate n 0 = search rules in
    let second : c.in_ok-vec-2.field-0.items ≡ replicate n 0 = search rules in
    let count = ap length c.signals-count.ensures.signals
    ∙ sym (length-map flat.signals.items signal_form) in (
      new_simulation (design_of flat) c.in_ok-vec.field-0.items
          (first ∙ ap (λ k. replicate k 0) count),
      ap length (second ∙ sym first),
      c.in_ok-plan_of.ensures,
    )
