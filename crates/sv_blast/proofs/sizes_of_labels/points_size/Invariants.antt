use Rattle.std.proofs.Common.{◌≡◌, min}
use Rattle.std.specs.List.{range_with_len}
use Rattle.sv_blast.specs.PointSizes.{points_size}
use Rattle.sv_blast.proofs.sizes_of_labels.points_size.Given as goal

-- the gates of the points so far
abbrev pub invariant-loop-point : goal.invariant-loop-point
invariant-loop-point l =
    l.total ≡ min (points_size l.width l.rows (range_with_len 0 l.point)) 4194305
