use Rattle.std.proofs.Common.{◌≡◌, min, take}
use Rattle.std.specs.List.{sum_by}
use Rattle.sv_flat.specs.declared.signals.SigId.{SigId}
use Rattle.sv_flat.specs.Views.{design_of}
use Rattle.sv_encoding.specs.Sizes.{label_size, label_of_signal}
use Rattle.sv_blast.proofs.sizes_of_labels.labels_size.Given as goal

-- the gates so far
abbrev pub invariant-loop-signal : goal.invariant-loop-signal
invariant-loop-signal l =
    let design = design_of l.design in
    l.total ≡ min (sum_by (λ (s : SigId). label_size design (label_of_signal design s.0))
    (take l.signal-index l.signals)) 4194305
