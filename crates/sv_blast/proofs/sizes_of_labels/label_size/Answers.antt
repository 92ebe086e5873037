use Rattle.std.proofs.Common.{length, min, ap, ap₂, ◌∙◌}
use Rattle.std.specs.List.{range_with_len}
use Rattle.sv_lattice.specs.Labels.{map_of}
use Rattle.sv_flat.specs.ByNumber.{signal_forms}
use Rattle.sv_flat.specs.Views.{design_of}
use Rattle.sv_encoding.specs.Sizes.{selector_width, label_size}
use Rattle.sv_blast.specs.PointSizes.{points_size}
use Rattle.sv_blast.proofs.PointSums.{table_size}
use Rattle.sv_blast.proofs.sizes_of_labels.label_size.Goals as goal

pub returns-in-Table : goal.returns-in-Table
returns-in-Table c =
    let design = design_of c.args.design.now in
    let rows = map_of design.maps c.in-Table.map in
    let width = selector_width design.signals c.in-Table.first c.in-Table.second in
    c.points_size.ensures
    ∙ ap (λ n. min n 4194305)
    (ap₂ (λ n w. points_size w c.rows_of.result.now (range_with_len 0 n))
    (c.size.ensures.size ∙ ap length c.lattice.ensures.lattice)
    (c.selector_width-width.ensures
    ∙ ap (λ ss. selector_width (signal_forms ss) c.in-Table.first c.in-Table.second)
    c.signals.ensures.signals)
    ∙ ap (λ rs. points_size width rs (range_with_len 0 (length design.lattice))) c.rows_of.ensures
    ∙ table_size design rows width
    ∙ ap (label_size design) c.in-Table.ensures.label)
