use Rattle.std.proofs.Common.{length}
use Rattle.sv_blast.proofs.KnownSignals.{known_at}
use Rattle.sv_blast.proofs.sizes_of_labels.labels_size.Goals as goal

pub label_size-requires : goal.label_size-requires
label_size-requires c =
    known_at (length c.args.design.now.signals.items) c.args.signals.now c.loop-signal.signal-index
    _ c.requires c.loop-signal-test.true
