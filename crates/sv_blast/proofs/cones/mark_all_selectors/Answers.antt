use Rattle.sv_blast.proofs.MarkTables.{below_at}
use Rattle.sv_blast.proofs.cones.mark_all_selectors.Goals as goal

pub mark_selectors-requires : goal.mark_selectors-requires
mark_selectors-requires c =
    below_at _ c.args.signals.now c.loop-signal.signal-index c.requires c.loop-signal-test.true
