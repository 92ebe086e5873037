use Rattle.std.proofs.Common.{◌||◌, ◌∙◌}
use Rattle.std.specs.List.{list_any}
use Rattle.sv_flat.specs.Clocks.{uses_as_signal, selects_by}
use Rattle.sv_flat.specs.Design.{SignalForm, InvariantForm}
use Rattle.sv_flat.specs.Readings.{names_signal}
use Rattle.sv_flat.specs.Views.{design_of}
use Rattle.sv_rules.specs.ClockTables.{is_used}
use Rattle.sv_rules.proofs.ClockFaults.{uses_are}
use Rattle.sv_graph.proofs.MarkFacts.{both_marked, same_marked}
use Rattle.sv_rules.proofs.clock_rule.mark_used.Goals as goal

pub returns : goal.returns
returns c =
    let design = design_of c.args.flat.now in
    let old = c.args.table.now in
    let first = c.mark_process_uses.new.table in
    let second = c.mark_label_uses.new.table in
    let new = c.mark_invariant_uses.new.table in
    let drives = λ (s : _). list_any (uses_as_signal design s) design.processes in
    let selects = λ (s : _). list_any (λ (signal : SignalForm).
    selects_by s signal.label) design.signals in
    let names = λ (s : _). list_any (λ (i : InvariantForm).
    names_signal design.signals i.expression s) design.invariants in
    same_marked old new (λ s. drives s || selects s || names s) (is_used design) (uses_are design)
    (both_marked old second new (λ s. drives s || selects s) names
    (c.mark_label_uses.auto.table ∙ c.mark_process_uses.auto.table)
    (both_marked old first second drives selects c.mark_process_uses.auto.table
    c.in_ok-mark_process_uses.ensures c.mark_label_uses.ensures)
    c.in_ok-mark_invariant_uses.ensures)
