use Rattle.sv_blast.proofs.SizeTables.{SizesBelow}
use Rattle.sv_blast.proofs.sizes_of_signals.signal_sizes.Given as goal

abbrev pub invariant-loop-number : goal.invariant-loop-number
invariant-loop-number l = SizesBelow l.design l.number l.sizes.items
