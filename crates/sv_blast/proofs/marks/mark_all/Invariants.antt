use Rattle.std.proofs.Common.{drop}
use Rattle.sv_flat.specs.Sets.{holds}
use Rattle.sv_design.specs.Numbers.{numbers}
use Rattle.sv_graph.proofs.MarkFacts.{MarksSoFar}
use Rattle.sv_blast.proofs.marks.mark_all.Given as goal

abbrev pub invariant-loop-signal : goal.invariant-loop-signal
invariant-loop-signal l =
    MarksSoFar l.initial.table l.table (holds (numbers l.signals))
    (holds (numbers (drop l.signal-index l.signals)))
