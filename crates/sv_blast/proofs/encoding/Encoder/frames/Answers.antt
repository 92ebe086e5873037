use Rattle.std.proofs.Common.{rules, ◌∙◌, ◌++◌, map, false, true, ap, sym, arith}
use Rattle.std.specs.Result.{IsErrOf}
use Rattle.sv_design.specs.Numbers.{numbers}
use Rattle.sv_gates.specs.Formulas.{Formula}
use Rattle.sv_gates.specs.declared.gates.GateFault.TheVariants.{Full}
use Rattle.sv_encoding.specs.Cones.{now_cone, next_cone}
use Rattle.sv_encoding.specs.Encoding.{bit_places, given_in, inputs_in}
use Rattle.sv_encoding.specs.Expressions.{Words}
use Rattle.sv_blast.specs.Coded.{place_form}
use Rattle.sv_blast.specs.Encoders.{design_in, obligation_in}
use Rattle.sv_blast.specs.Steps.{after_given, after_inputs}
use Rattle.sv_blast.proofs.FramedSteps.{new_frames}
use Rattle.sv_blast.proofs.WholeEncodings.{next_within, settled_within}
use Rattle.sv_blast.proofs.encoding.Encoder.frames.Goals as goal

pub returns-clause-begun : goal.returns-clause-begun
returns-clause-begun c =
    let encoder = c.args.self.now in
    let design = design_in encoder in
    let o = obligation_in encoder in
    let given = bit_places false (after_given design o).1 (given_in design (now_cone design o)) in
    let inputs = bit_places true (after_inputs design o).1 (inputs_in design (next_cone design o)) in
    let bits = c.in_ok-next.ensures.bits
    ∙ ap (λ z. z ++ inputs)
    (c.in_ok-now.ensures.bits ∙ ap (λ z. map place_form z ++ given) c.new-bits.ensures.items) in
    new_frames encoder _
    (ap numbers (c.in_ok-now_cone.ensures.items_if_clones_equal (λ x y same. same)
    ∙ c.as_slice.ensures.value) ∙ c.requires.encoder.now)
    (ap numbers (c.in_ok-next_cone.ensures.items_if_clones_equal (λ x y same. same)
    ∙ c.as_slice-2.ensures.value) ∙ c.requires.encoder.next)
    (sym (ap (λ (z : Formula × Words). z.1) c.in_ok-now.ensures.made))
    c.in_ok-next.ensures.made bits c.requires.size c.mark-mark.ensures.variables
    c.mark-mark.ensures.clauses c.mark-mark.ensures.proper c.new-truths.ensures.items

pub returns-in_err-now-clause-full : goal.returns-in_err-now-clause-full
returns-in_err-now-clause-full c =
    let same : IsErrOf c.from_residual-in_err-now.result Full → IsErrOf c.words_now.result Full =
    search rules in
    let more = settled_within c.args.self.now.design.now c.know_design.ensures.checked
    (obligation_in c.args.self.now) c.requires.encoder.query in
    λ e.
    let most = c.words_now.ensures.full (same e) in
    omega (arith, most, more)

pub returns-in_err-next-clause-full : goal.returns-in_err-next-clause-full
returns-in_err-next-clause-full c =
    let same : IsErrOf c.from_residual-in_err-next.result Full → IsErrOf c.words_next.result Full =
    search rules in
    let more = next_within c.args.self.now.design.now c.know_design.ensures.checked
    (obligation_in c.args.self.now) c.requires.encoder.query in
    λ e.
    let most = c.words_next.ensures.full (same e) in
    omega (arith, most, more)
