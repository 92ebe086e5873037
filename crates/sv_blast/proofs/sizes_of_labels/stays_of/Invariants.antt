use Rattle.std.proofs.Common.{◌≡◌, min, take}
use Rattle.std.specs.List.{sum_by}
use Rattle.sv_flat.specs.declared.signals.SigId.{SigId}
use Rattle.sv_flat.specs.Views.{design_of}
use Rattle.sv_blast.specs.PointSizes.{stays_at}
use Rattle.sv_blast.proofs.sizes_of_labels.stays_of.Given as goal

-- the pairs so far
abbrev pub invariant-loop-read : goal.invariant-loop-read
invariant-loop-read l =
    l.total ≡ min (sum_by (λ (s : SigId). stays_at (design_of l.design) l.target s.0)
    (take l.read-index l.reads)) 4194305
