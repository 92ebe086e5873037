use Rattle.std.proofs.Common.{ℕ, Bool, false, get_or, Vec, Global, length, refl}
use Rattle.std.proofs.Common.{◌≡◌, ap, subst, ◌∙◌, arith}
use Rattle.std.specs.List.{range_with_len}
use Rattle.std.specs.Prelude.{IfOk, filter}
use Rattle.sv_flat.specs.declared.signals.SigId.{SigId}
use Rattle.sv_graph.specs.Numbers.{numbers}
use Rattle.std.proofs.Math.ListN.{length-map}
use Rattle.sv_flat.specs.Clocks.{has_edge, is_edge}
use Rattle.sv_flat.specs.Design.{ProcessForm}
use Rattle.sv_flat.specs.Views.{design_of, process_form, signal_form}
use Rattle.sv_rules.specs.ReadMarks.{HasClockBelow}
use Rattle.sv_rules.proofs.Sound.{process_at}
use Rattle.sv_rules.proofs.TableFacts.{clock_below}
use Rattle.sv_rules.proofs.TableFacts.{listed_are}
use Rattle.sv_rules.proofs.ProcessMarks.{slice_size, all_left, marks_next, all_marked}
use Rattle.sv_rules.proofs.clocks.edges_of.Goals as goal

-- the signal whose edges a process waits for
abbrev edges : ProcessForm → ℕ → Bool
edges p s = has_edge s p.kind

pub mark_edge-requires : goal.mark_edge-requires
mark_edge-requires c =
    let process = c.process-item.result in
    let sound = process_at c.args.flat.now c.deref-process-items.result.now
    c.loop-process.process-index process
    c.deref-process-items.ensures.value c.loop-process-test.true c.process-item.is c.requires in
    subst (λ n. HasClockBelow n (process_form process).kind)
    (slice_size c.args.flat.now c.in_ok-table.table.items c.loop-process.table.items
    c.deref_mut.result.now c.in_ok-table.ensures c.loop-process.invariant.0
    c.deref_mut.ensures.value)
    (clock_below (design_of c.args.flat.now) (process_form process) sound)

pub loop-process-init : goal.loop-process-init
loop-process-init c =
    let table = c.in_ok-table.table.items in
    (refl, all_left c.args.flat.now edges table _ c.deref-process-items.ensures.value)

pub loop-process-preserved : goal.loop-process-preserved
loop-process-preserved c =
    marks_next c.args.flat.now edges c.in_ok-table.table.items c.deref-process-items.result.now
    c.loop-process.table.items c.deref_mut.result.now c.mark_edge.new.table
    c.loop-process.table.len c.loop-process.process-index c.process-item.result
    c.loop-process.invariant (omega arith) c.deref_mut.ensures.value c.mark_edge.auto.table
    c.loop-process-test.true c.process-item.is c.mark_edge.ensures

pub returns : goal.returns
returns c =
    let design = design_of c.args.flat.now in
    let now = c.loop-process.table.items in
    let n = length c.args.flat.now.signals.items in
    let table = all_marked c.args.flat.now edges c.in_ok-table.table.items
    c.deref-process-items.result.now now c.loop-process.process-index c.loop-process.invariant
    c.loop-process-test.false c.in_ok-table.ensures in
    subst (λ ks. IfOk c.listed.result (λ (signals : Vec SigId Global). numbers signals.items ≡ ks))
    (ap (λ ts. filter (λ s. get_or ts s false) (range_with_len 0 (length ts))) c.deref.ensures.value
    ∙ listed_are n now (is_edge design) (length design.signals) table
    (length-map c.args.flat.now.signals.items signal_form))
    c.listed.ensures
