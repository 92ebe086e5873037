use Rattle.std.proofs.Common.{◌∙◌, ap, sym}
use Rattle.sv_design.specs.Numbers.{numbers}
use Rattle.sv_blast.proofs.FramedSteps.{same_numbers}
use Rattle.sv_blast.proofs.encoding.Encoder.has_frames.Goals as goal

pub returns-then-eq : goal.returns-then-eq
returns-then-eq c = λ equal. record {
  framed = c.requires.framed;
  now = ap numbers (sym c.as_slice.ensures.value)
      ∙ same_numbers c.as_slice.result.now c.as_slice-2.result.now (sym c.eq.ensures ∙ c.if-eq.true)
      ∙ ap numbers c.as_slice-2.ensures.value ∙ c.requires.encoder.now;
  next = ap numbers (sym c.as_slice-then-eq.ensures.value)
      ∙ same_numbers c.as_slice-then-eq.result.now c.as_slice-then-eq-2.result.now
      (sym c.eq-then-eq.ensures ∙ equal)
      ∙ ap numbers c.as_slice-then-eq-2.ensures.value ∙ c.requires.encoder.next;
}
