use Rattle.std.proofs.Common.{◌==◌, ◌+◌, get_or, drop, refl}
use Rattle.std.proofs.lemmas.List.{at_drop_all, at_drop_more}
use Rattle.sv_flat.specs.Sets.{holds}
use Rattle.sv_design.specs.Numbers.{numbers}
use Rattle.sv_graph.proofs.MarkFacts.{marks_more, marks_end}
use Rattle.sv_blast.proofs.MarkTables.{no_signal}
use Rattle.sv_blast.proofs.marks.mark_all.Goals as goal

pub loop-signal-init : goal.loop-signal-init
loop-signal-init c = λ s below. refl

pub loop-signal-preserved : goal.loop-signal-preserved
loop-signal-preserved c =
    let signals = c.args.signals.now in
    let i = c.loop-signal.signal-index in
    marks_more c.args.table.now c.loop-signal.table c.mark.new.table (holds (numbers signals))
    (holds (numbers (drop i signals))) (λ s. (get_or signals i no_signal).0 == s)
    (holds (numbers (drop (i + 1) signals))) c.loop-signal.auto.table
    (λ s. at_drop_more (λ ss. holds (numbers ss) s) signals i no_signal c.loop-signal-test.true)
    c.mark.ensures c.loop-signal.invariant

pub returns : goal.returns
returns c =
    let signals = c.args.signals.now in
    let i = c.loop-signal.signal-index in
    marks_end c.args.table.now c.loop-signal.table (holds (numbers signals))
    (holds (numbers (drop i signals)))
    (λ s. at_drop_all (λ ss. holds (numbers ss) s) signals i c.loop-signal-test.false)
    c.loop-signal.invariant
