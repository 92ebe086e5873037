use Rattle.std.proofs.Common.{◌<◌, length, min, subst, sym, ap₂, ◌∙◌, All}
use Rattle.sv_flat.specs.Views.{design_of}
use Rattle.sv_obl.specs.Views.{obligation_of}
use Rattle.sv_blast.specs.Framed.{frames_size}
use Rattle.sv_blast.proofs.QuerySignals.{now_known, next_known}
use Rattle.sv_blast.proofs.sizes.encoding_size.Goals as goal

pub frames_size-frames-requires-clause-now : goal.frames_size-frames-requires-clause-now
frames_size-frames-requires-clause-now c =
    subst (All (λ s. s < length c.args.design.now.signals.items)) (sym c.requires.now)
    (now_known c.args.design.now c.know_design.ensures.checked.is_sound
    c.know_design.ensures.checked.admitted (obligation_of c.args.query.now) c.requires.query)

pub frames_size-frames-requires-clause-next : goal.frames_size-frames-requires-clause-next
frames_size-frames-requires-clause-next c =
    subst (All (λ s. s < length c.args.design.now.signals.items)) (sym c.requires.next)
    (next_known c.args.design.now c.know_design.ensures.checked.is_sound
    c.know_design.ensures.checked.admitted (obligation_of c.args.query.now) c.requires.query)

pub size_with-requires-clause-frames : goal.size_with-requires-clause-frames
size_with-requires-clause-frames c =
    c.frames_size-frames.ensures
    ∙ ap₂ (λ cone later. min (frames_size (design_of c.args.design.now) cone later) 4194305)
    c.requires.now c.requires.next
