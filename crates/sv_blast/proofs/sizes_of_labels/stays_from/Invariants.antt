use Rattle.std.proofs.Common.{◌≡◌, min}
use Rattle.std.specs.List.{range_with_len}
use Rattle.sv_blast.specs.PointSizes.{stays_from}
use Rattle.sv_blast.proofs.sizes_of_labels.stays_from.Given as goal

-- the points so far
abbrev pub invariant-loop-point : goal.invariant-loop-point
invariant-loop-point l =
    l.total ≡ min (stays_from l.lattice l.from l.target (range_with_len 0 l.point)) 4194305
