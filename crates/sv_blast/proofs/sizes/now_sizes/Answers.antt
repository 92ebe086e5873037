use Rattle.std.proofs.Common.{length}
use Rattle.sv_blast.proofs.KnownSignals.{known_at}
use Rattle.sv_blast.proofs.sizes.now_sizes.Goals as goal

pub now_size-requires-clause-known : goal.now_size-requires-clause-known
now_size-requires-clause-known c =
    known_at (length c.args.design.now.signals.items) c.args.cone.now c.loop-signal.signal-index
    _ c.requires.known c.loop-signal-test.true
