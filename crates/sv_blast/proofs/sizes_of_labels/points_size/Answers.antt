use Rattle.std.proofs.Common.{ℕ, ◌==◌, min, ap, ◌∙◌}
use Rattle.std.specs.Prelude.{count_by}
use Rattle.sv_lattice.specs.declared.points.Point.{Point}
use Rattle.sv_encoding.specs.Sizes.{point_size}
use Rattle.sv_blast.proofs.SizeSums.{capped_more, below_more}
use Rattle.sv_blast.proofs.sizes_of_labels.points_size.Goals as goal

pub loop-point-preserved : goal.loop-point-preserved
loop-point-preserved c =
    let size = λ (p : ℕ). point_size c.args.width
    (count_by (λ (row : Point). row.0 == p) c.args.rows.now) in
    capped_more _ (size c.loop-point.point) _ _ _ _ c.loop-point.invariant
    (c.point_size.ensures ∙ ap (λ k. min (point_size c.args.width k) 4194305) c.rows_with.ensures)
    c.sum-total.ensures (below_more size c.loop-point.point)
