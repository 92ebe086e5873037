use Rattle.std.proofs.Common.{◌≡◌, ◌∙◌, length, sym, arith}
use Rattle.std.proofs.lemmas.List.{length-map}
use Rattle.sv_flat.specs.declared.signals.SigId.{SigId}
use Rattle.sv_design.specs.Numbers.{numbers}
use Rattle.sv_blast.proofs.Searched.{set_listed}
use Rattle.sv_blast.proofs.decoding.set_bit.Goals as goal

pub returns-in-Some : goal.returns-in-Some
returns-in-Some c = record {
  each = λ k known.
      let count : length (numbers c.args.listed.now) ≡ length c.args.listed.now =
      length-map c.args.listed.now (λ (t : SigId). t.0) in
      set_listed (numbers c.args.listed.now) c.args.values.now c.in-Some.at c.args.signal.0
      c.args.bit k c.requires.ascending (c.requires.count ∙ sym count)
      (omega (arith, c.in-Some.ensures.found.0, count)) c.in-Some.ensures.found.1 c.requires.bit
      (omega (arith, known, count));
}
