use Rattle.std.proofs.Common.{refl, subst, take}
use Rattle.std.specs.Prelude.{List}
use Rattle.sv_encoding.specs.Cones.{conditions_of}
use Rattle.sv_blast.specs.Encoders.{design_in, obligation_in}
use Rattle.sv_blast.specs.Framed.{AreFirst}
use Rattle.sv_blast.specs.declared.framed.Truth.{Truth}
use Rattle.sv_blast.proofs.FramedSteps.{proper_back, begun_again}
use Rattle.sv_blast.proofs.encoding.Encoder.kept.Goals as goal

pub back_to-requires : goal.back_to-requires
back_to-requires c =
    proper_back (design_in c.args.self.now) c.in_ok-made.made
    (c.if-not-has_frames.ensures refl).framed c.same_truths-same.result c.truncate.new.self
    c.truncate.ensures.items c.last_mark-mark.result c.last_mark-mark.ensures

pub returns : goal.returns
returns c =
    begun_again c.args.self.now c.in_ok-made.made (c.if-not-has_frames.ensures refl)
    c.same_truths-same.result c.truncate.new.self c.truncate.ensures.items c.last_mark-mark.result
    c.last_mark-mark.ensures c.back_to.new.self c.back_to.ensures
    (subst (λ (ts : List Truth). AreFirst (take c.same_truths-same.result ts)
    (conditions_of (obligation_in c.args.self.now))) c.deref.ensures.value c.same_truths-same.ensures)
