use Rattle.std.proofs.Common.{length, get_or, min, ap, ◌∙◌}
use Rattle.std.specs.List.{range_with_len}
use Rattle.std.proofs.lemmas.List.Sums.{sum_by_more}
use Rattle.sv_flat.specs.declared.signals.SigId.{SigId}
use Rattle.sv_flat.specs.Views.{design_of}
use Rattle.sv_encoding.specs.Sizes.{label_of_signal}
use Rattle.sv_blast.specs.PointSizes.{has_point, stays_between, stays_at}
use Rattle.sv_blast.proofs.KnownSignals.{known_at}
use Rattle.sv_blast.proofs.PointSums.{between_listed}
use Rattle.sv_blast.proofs.SizeSums.{capped_more}
use Rattle.sv_blast.proofs.sizes_of_labels.stays_of.Goals as goal

pub label_of-requires : goal.label_of-requires
label_of-requires c =
    known_at (length c.args.design.now.signals.items) c.args.reads.now c.loop-read.read-index
    _ c.requires.known c.loop-read-test.true

pub loop-read-preserved : goal.loop-read-preserved
loop-read-preserved c =
    let design = design_of c.args.design.now in
    let target = c.args.target.now in
    let i = c.loop-read.read-index in
    let none : SigId = record { 0 = 0 } in
    let read = get_or c.args.reads.now i none in
    let marks = c.points_of-label.result in
    capped_more _ (stays_at design target read.0) _ _ _ _ c.loop-read.invariant
    (c.stay_count.ensures
    ∙ ap (λ table. min (stays_between table marks target (range_with_len 0 (length table)))
    4194305) c.lattice.ensures.lattice
    ∙ ap (λ n. min n 4194305) (between_listed design (label_of_signal design read.0) marks target
    (λ p h. c.points_of-label.ensures.points p h
    ∙ ap (λ l. has_point design l p) c.label_of.ensures.label)))
    c.sum-total.ensures
    (sum_by_more (λ (s : SigId). stays_at design target s.0) c.args.reads.now i none
    c.loop-read-test.true)
