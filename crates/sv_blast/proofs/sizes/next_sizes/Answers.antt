use Rattle.std.proofs.Common.{length}
use Rattle.sv_blast.proofs.KnownSignals.{known_at}
use Rattle.sv_blast.proofs.sizes.next_sizes.Goals as goal

pub next_size-requires-clause-known : goal.next_size-requires-clause-known
next_size-requires-clause-known c =
    known_at (length c.args.design.now.signals.items) c.args.cone.now c.loop-signal.signal-index
    _ c.requires.known c.loop-signal-test.true
