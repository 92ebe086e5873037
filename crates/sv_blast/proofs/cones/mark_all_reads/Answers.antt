use Rattle.std.proofs.Common.{◌+◌, ◌∙◌, get_or, drop}
use Rattle.std.specs.Prelude.{flat_map}
use Rattle.std.proofs.lemmas.List.{at_drop_more}
use Rattle.sv_flat.specs.Reads.{reads_for}
use Rattle.sv_flat.specs.Sets.{holds}
use Rattle.sv_flat.specs.Views.{design_of}
use Rattle.sv_design.specs.Numbers.{numbers}
use Rattle.sv_graph.proofs.MarkFacts.{marks_more}
use Rattle.sv_blast.proofs.MarkTables.{below_at, holds_join, no_signal}
use Rattle.sv_blast.proofs.cones.mark_all_reads.Goals as goal

pub mark_reads-requires : goal.mark_reads-requires
mark_reads-requires c =
    below_at _ c.args.signals.now c.loop-signal.signal-index c.requires c.loop-signal-test.true

pub loop-signal-preserved : goal.loop-signal-preserved
loop-signal-preserved c =
    let signals = c.args.signals.now in
    let i = c.loop-signal.signal-index in
    let reads = reads_for (design_of c.args.design.now) in
    let here = (get_or signals i no_signal).0 in
    let later = flat_map reads (numbers (drop (i + 1) signals)) in
    marks_more c.args.table.now c.loop-signal.table c.mark_reads.new.table
    (holds (flat_map reads (numbers signals))) (holds (flat_map reads (numbers (drop i signals))))
    (holds (reads here)) (holds later) c.loop-signal.auto.table
    (λ s. at_drop_more (λ ss. holds (flat_map reads (numbers ss)) s) signals i no_signal
    c.loop-signal-test.true
    ∙ holds_join (reads here) later s)
    c.mark_reads.ensures c.loop-signal.invariant
