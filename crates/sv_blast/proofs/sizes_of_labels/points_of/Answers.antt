use Rattle.std.proofs.Common.{◌≡◌, ◌≢◌, ◌<◌, false, length, get_or, set, arith, below_more, ◌∙◌}
use Rattle.std.proofs.Common.{length-set, get_or-set_other, get_or-set_same}
use Rattle.sv_flat.specs.Views.{design_of}
use Rattle.sv_blast.specs.PointSizes.{has_point}
use Rattle.sv_blast.proofs.sizes_of_labels.points_of.Goals as goal

pub loop-point-preserved : goal.loop-point-preserved
loop-point-preserved c =
    let i = c.loop-point.point in
    let points = c.loop-point.points in (
      length-set points i c.has_point.result ∙ c.loop-point.invariant.0,
      below_more (λ p. get_or (set points i c.has_point.result) p false
          ≡ has_point (design_of c.args.design.now) c.args.label p) i
          (λ k h. let ne : k ≢ i = omega arith in rw get_or-set_other
          (c.loop-point.invariant.1 k h))
          (let lt : i < length points = omega (
            arith,
            c.loop-point.invariant.0,
            c.size-point-end.ensures.lattice.count.1,
            c.size-point-end.ensures.size,
          ) in rw get_or-set_same c.has_point.ensures),
    )
