use Rattle.std.proofs.Common.{◌≡◌, min, take}
use Rattle.std.specs.List.{sum_by}
use Rattle.sv_flat.specs.declared.signals.SigId.{SigId}
use Rattle.sv_flat.specs.Views.{design_of}
use Rattle.sv_blast.specs.ConeSizes.{now_size}
use Rattle.sv_blast.proofs.sizes.now_sizes.Given as goal

-- what is taken so far
abbrev pub invariant-loop-signal : goal.invariant-loop-signal
invariant-loop-signal l =
    l.total ≡ min (sum_by (λ (s : SigId). now_size (design_of l.design) s.0)
    (take l.signal-index l.cone)) 4194305
