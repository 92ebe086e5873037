use Rattle.std.proofs.Common.{◌≡◌, ℕ, ◌<◌, false, get_or, length}
use Rattle.sv_flat.specs.Views.{design_of}
use Rattle.sv_blast.specs.PointSizes.{has_point}
use Rattle.sv_blast.proofs.sizes_of_labels.points_of.Given as goal

-- the points so far are marked
abbrev pub invariant-loop-point : goal.invariant-loop-point
invariant-loop-point l =
    (length l.points ≡ 32)
    × ((p : ℕ) → p < l.point → get_or l.points p false ≡ has_point (design_of l.design) l.label p)
