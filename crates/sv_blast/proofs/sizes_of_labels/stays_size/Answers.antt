use Rattle.std.proofs.Common.{min, ap, ◌∙◌}
use Rattle.sv_design.specs.Numbers.{numbers}
use Rattle.sv_flat.specs.Views.{design_of}
use Rattle.sv_encoding.specs.Sizes.{gate_chain_size}
use Rattle.sv_blast.specs.PointSizes.{has_point, stays_of}
use Rattle.sv_blast.proofs.KnownSignals.{known_signal, known_signals}
use Rattle.sv_blast.proofs.PointSums.{all_counted}
use Rattle.sv_blast.proofs.SizeSums.{capped_chain}
use Rattle.sv_blast.proofs.sizes_of_labels.stays_size.Goals as goal

pub returns : goal.returns
returns c =
    let design = design_of c.args.design.now in
    let reads = numbers c.args.reads.now in
    let marks = c.points_of-points.result in
    c.gate_chain_size.ensures
    ∙ ap (λ n. min (gate_chain_size n) 4194305) c.stays_of.ensures
    ∙ capped_chain (stays_of design marks reads)
    ∙ ap (λ n. min (gate_chain_size n) 4194305)
    (all_counted design c.label_of.ensures.design.is_sound c.args.target.0
    (known_signal c.args.design.now c.args.target.0 c.requires.target) marks
    (λ p h. c.points_of-points.ensures.points p h
    ∙ ap (λ l. has_point design l p) c.label_of.ensures.label) reads
    (known_signals c.args.design.now reads c.requires.known))
