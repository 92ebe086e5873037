use Rattle.std.proofs.Common.{◌+◌, ◌||◌, map, drop, sym, ap, subst, ◌∙◌, List}
use Rattle.std.specs.Prelude.{Contains}
use Rattle.std.specs.List.{list_any}
use Rattle.std.proofs.Math.ListN.{length-map}
use Rattle.std.proofs.lemmas.List.{at_drop_all}
use Rattle.std.proofs.lemmas.List.Elements.{Contains-get_or}
use Rattle.sv_system.proofs.Lists.{Contains-map}
use Rattle.sv_flat.specs.Clocks.{selects_by}
use Rattle.sv_flat.specs.Design.{SignalForm}
use Rattle.sv_flat.specs.declared.signals.Signal.{Signal}
use Rattle.sv_flat.specs.Views.{design_of, signal_form}
use Rattle.sv_graph.specs.Marks.{is_marked}
use Rattle.sv_rules.specs.Selectors.{SelectsBelow}
use Rattle.sv_graph.proofs.MarkFacts.{marks_more, marks_end}
use Rattle.sv_graph.proofs.ListFacts.{any_more}
use Rattle.sv_rules.proofs.UseFacts.{label_below}
use Rattle.sv_rules.proofs.uses.mark_label_uses.Goals as goal

pub loop-signal-init : goal.loop-signal-init
loop-signal-init c = λ s below.
    ap (λ zs. is_marked c.args.table.now s || list_any (λ (z : SignalForm).
    selects_by s z.label) (map signal_form zs)) c.deref-signal-items.ensures.value

pub mark_selectors-requires : goal.mark_selectors-requires
mark_selectors-requires c =
    let design = design_of c.args.flat.now in
    let items = c.deref-signal-items.result.now in
    let signal = c.signal-item.result in
    let member = Contains-map signal_form c.args.flat.now.signals.items signal
    (subst (λ (zs : List Signal). Contains zs signal) c.deref-signal-items.ensures.value
    (subst (Contains items) (sym c.signal-item.is)
    (Contains-get_or items c.loop-signal.signal-index signal c.loop-signal-test.true))) in
    subst (λ n. SelectsBelow n signal.label)
    (length-map c.args.flat.now.signals.items signal_form ∙ sym c.requires.size
    ∙ sym c.loop-signal.auto.table)
    (label_below design c.requires.sound (signal_form signal) member)

pub loop-signal-preserved : goal.loop-signal-preserved
loop-signal-preserved c =
    let items = c.deref-signal-items.result.now in
    let i = c.loop-signal.signal-index in
    marks_more c.args.table.now c.loop-signal.table c.mark_selectors.new.table
    (λ s. list_any (λ (z : SignalForm). selects_by s z.label) (design_of c.args.flat.now).signals)
    (λ s. list_any (λ (z : SignalForm). selects_by s z.label) (map signal_form (drop i items)))
    (λ s. selects_by s c.signal-item.result.label)
    (λ s. list_any (λ (z : SignalForm).
    selects_by s z.label) (map signal_form (drop (i + 1) items))) c.loop-signal.auto.table
    (λ s. any_more signal_form (λ (z : SignalForm).
    selects_by s z.label) items i c.signal-item.result c.loop-signal-test.true c.signal-item.is)
    c.mark_selectors.ensures c.loop-signal.invariant

pub returns : goal.returns
returns c =
    let items = c.deref-signal-items.result.now in
    marks_end c.args.table.now c.loop-signal.table (λ s.
    list_any (λ (z : SignalForm). selects_by s z.label) (design_of c.args.flat.now).signals)
    (λ s. list_any (λ (z : SignalForm).
    selects_by s z.label) (map signal_form (drop c.loop-signal.signal-index items)))
    (λ s. at_drop_all (λ zs.
    list_any (λ (z : SignalForm).
    selects_by s z.label) (map signal_form zs)) items c.loop-signal.signal-index
    c.loop-signal-test.false)
    c.loop-signal.invariant
