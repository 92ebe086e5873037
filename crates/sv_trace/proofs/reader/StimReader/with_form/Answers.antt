use Rattle.std.proofs.Common.{rules, ◌≡◌, false, length, map, sym, ap, ◌∙◌, subst, arith}
use Rattle.std.specs.Prelude.{All, replicate}
use Rattle.std.proofs.lemmas.List.{length-replicate}
use Rattle.sv_trace.specs.Reading.{FitWidths}
use Rattle.sv_trace.proofs.ReaderFacts.{new_fits}
use Rattle.sv_trace.proofs.reader.StimReader.with_form.Goals as goal

pub invariant_of-result : goal.invariant_of-result
invariant_of-result c =
    let n = c.len-count.result in
    let registers = c.form.inside.registers.items in
    let count : n ≡ length registers = search rules in
    let given : c.in_ok-vec.field-0.items ≡ replicate n false = search rules in
    let start : c.in_ok-vec-2.field-0.items ≡ replicate n 0 = search rules in
    record {
      said = record {
        given = ap length given ∙ length-replicate n false ∙ count;
        start = new_fits registers n c.in_ok-vec-2.field-0.items count start;
        cycles = subst (λ vs. All (FitWidths c.form.inside.inputs.items) (map (λ v. v.items) vs))
            (sym c.new.ensures.items) (λ k d h. absurd (omega arith));
      };
      room = omega (arith, ap length c.new-2.ensures.items);
      short = omega (arith, ap length c.new-2.ensures.items);
    }
