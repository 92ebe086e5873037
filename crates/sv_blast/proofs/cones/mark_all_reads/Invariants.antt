use Rattle.std.proofs.Common.{drop}
use Rattle.std.specs.Prelude.{flat_map}
use Rattle.sv_flat.specs.Sets.{holds}
use Rattle.sv_flat.specs.Views.{design_of}
use Rattle.sv_design.specs.Numbers.{numbers}
use Rattle.sv_graph.proofs.MarkFacts.{MarksSoFar}
use Rattle.sv_flat.specs.Reads.{reads_for}
use Rattle.sv_blast.proofs.cones.mark_all_reads.Given as goal

abbrev pub invariant-loop-signal : goal.invariant-loop-signal
invariant-loop-signal l =
    MarksSoFar l.initial.table l.table
    (holds (flat_map (reads_for (design_of l.design)) (numbers l.signals)))
    (holds (flat_map (reads_for (design_of l.design)) (numbers (drop l.signal-index l.signals))))
