use Rattle.std.proofs.Common.{◌∙◌, ◌<◌, min, length, ap, ap₂, sym, subst, All}
use Rattle.sv_design.specs.Numbers.{numbers}
use Rattle.sv_blast.specs.Encoders.{design_in, obligation_in}
use Rattle.sv_blast.specs.Framed.{frames_size, IsBegun}
use Rattle.sv_blast.proofs.FramedSteps.{size_path}
use Rattle.sv_blast.proofs.QuerySignals.{now_known, next_known}
use Rattle.sv_blast.proofs.encoding.Encoder.frames_size.Goals as goal

pub frames_size-requires : goal.frames_size-requires
frames_size-requires c =
    let flat = c.args.self.now.design.now in
    let o = obligation_in c.args.self.now in
    let is = c.know_design.ensures.checked in
    let query = c.requires.encoder.query in
    record {
      sizes = c.requires.encoder.sizes;
      now = subst (All (λ s. s < length flat.signals.items))
          (sym (ap numbers c.deref.ensures.value ∙ c.requires.encoder.now))
          (now_known flat is.is_sound is.admitted o query);
      next = subst (All (λ s. s < length flat.signals.items))
          (sym (ap numbers c.deref-in-None.ensures.value ∙ c.requires.encoder.next))
          (next_known flat is.is_sound is.admitted o query);
    }

pub returns-in-Some : goal.returns-in-Some
returns-in-Some c =
    let begun : IsBegun c.args.self.now c.in-Some.made = rw c.in-Some.is at c.requires.kept in
    size_path c.args.self.now c.in-Some.made begun.frames

pub returns-in-None : goal.returns-in-None
returns-in-None c =
    let design = design_in c.args.self.now in
    c.frames_size.ensures
    ∙ ap₂ (λ cone later. min (frames_size design cone later) 4194305)
    (ap numbers c.deref.ensures.value ∙ c.requires.encoder.now)
    (ap numbers c.deref-in-None.ensures.value ∙ c.requires.encoder.next)
