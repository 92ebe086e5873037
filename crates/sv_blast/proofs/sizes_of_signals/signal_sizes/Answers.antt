use Rattle.sv_blast.proofs.SizeTables.{sizes_more}
use Rattle.sv_blast.proofs.sizes_of_signals.signal_sizes.Goals as goal

pub loop-number-preserved : goal.loop-number-preserved
loop-number-preserved c =
    sizes_more c.args.design.now c.loop-number.number _ c.loop-number.sizes.items _
    c.loop-number.invariant c.in_ok-push.ensures.items c.in_ok-signal_size.ensures
