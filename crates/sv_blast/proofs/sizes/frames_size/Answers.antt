use Rattle.std.proofs.Common.{◌+◌, min, ap, ◌∙◌}
use Rattle.sv_design.specs.Numbers.{numbers}
use Rattle.sv_flat.specs.Views.{design_of}
use Rattle.sv_blast.specs.ConeSizes.{now_sizes, next_sizes}
use Rattle.sv_blast.proofs.SizeSums.{capped_frames}
use Rattle.sv_blast.proofs.sizes.frames_size.Goals as goal

pub returns : goal.returns
returns c =
    let design = design_of c.args.design.now in
    capped_frames (now_sizes design (numbers c.args.now.now))
    (next_sizes design (numbers c.args.next.now)) c.now_sizes-here.result
    c.next_sizes-later.result c.sum-2.result c.now_sizes-here.ensures c.next_sizes-later.ensures
    (c.sum-2.ensures ∙ ap (λ m. min (m + c.next_sizes-later.result) 4194305) c.sum.ensures)
