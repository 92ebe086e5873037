use Rattle.std.proofs.Common.{ℕ, ◌+◌, Bool, ◌||◌, List, map, drop, ap}
use Rattle.std.specs.List.{list_any}
use Rattle.std.proofs.lemmas.List.{at_drop_all}
use Rattle.sv_flat.specs.Clocks.{uses_as_signal}
use Rattle.sv_flat.specs.Views.{design_of, process_form}
use Rattle.sv_flat.specs.declared.designs.Flat.{Flat}
use Rattle.sv_flat.specs.declared.designs.Process.{Process}
use Rattle.sv_graph.specs.Marks.{is_marked}
use Rattle.sv_graph.proofs.MarkFacts.{marks_more, marks_end}
use Rattle.sv_rules.proofs.Sound.{process_at}
use Rattle.sv_graph.proofs.ListFacts.{any_more}
use Rattle.sv_rules.proofs.uses.mark_process_uses.Goals as goal

-- one of the processes uses the signal
abbrev used_by : Flat → List Process → ℕ → Bool
used_by flat processes s = list_any (uses_as_signal (design_of flat) s) (map process_form processes)

pub loop-process-init : goal.loop-process-init
loop-process-init c = λ s below.
    ap (λ ps. is_marked c.args.table.now s || used_by c.args.flat.now ps s)
    c.deref-process-items.ensures.value

pub mark_uses-requires-clause-process : goal.mark_uses-requires-clause-process
mark_uses-requires-clause-process c =
    process_at c.args.flat.now c.deref-process-items.result.now c.loop-process.process-index
    c.process-item.result
    c.deref-process-items.ensures.value c.loop-process-test.true c.process-item.is c.requires.sound

pub loop-process-preserved : goal.loop-process-preserved
loop-process-preserved c =
    let flat = c.args.flat.now in
    let processes = c.deref-process-items.result.now in
    let i = c.loop-process.process-index in
    let p = c.process-item.result in
    marks_more c.args.table.now c.loop-process.table c.mark_uses.new.table
    (used_by flat flat.processes.items) (used_by flat (drop i processes))
    (λ s. uses_as_signal (design_of flat) s (process_form p))
    (used_by flat (drop (i + 1) processes)) c.loop-process.auto.table
    (λ s. any_more process_form (uses_as_signal (design_of flat) s) processes i p
    c.loop-process-test.true c.process-item.is)
    c.in_ok-mark_uses.ensures c.loop-process.invariant

pub returns : goal.returns
returns c =
    let flat = c.args.flat.now in
    let processes = c.deref-process-items.result.now in
    let i = c.loop-process.process-index in
    marks_end c.args.table.now c.loop-process.table (used_by flat flat.processes.items)
    (used_by flat (drop i processes))
    (λ s. at_drop_all (λ ps. used_by flat ps s) processes i c.loop-process-test.false)
    c.loop-process.invariant
