use Rattle.std.proofs.Common.{◌<◌, ◌==◌, ◌||◌, ◌+◌, get_or, drop, sym, ap, subst, ◌∙◌}
use Rattle.std.specs.List.{list_any}
use Rattle.std.proofs.lemmas.List.{at_drop_all, at_drop_more}
use Rattle.sv_flat.specs.Readings.{ReadForm, names_signal}
use Rattle.sv_flat.specs.Views.{design_of, typed_tree}
use Rattle.sv_rules.specs.declared.names.Read.{Read}
use Rattle.sv_rules.specs.ReadForms.{read_form}
use Rattle.sv_graph.specs.Marks.{is_marked}
use Rattle.sv_graph.proofs.MarkFacts.{any_map, marks_more, marks_end}
use Rattle.sv_rules.proofs.PhaseFacts.{no_read, names_are, name_inside}
use Rattle.sv_rules.proofs.marks.mark_names.Goals as goal

pub loop-name-init : goal.loop-name-init
loop-name-init c = λ s below.
    let tree = typed_tree c.args.expr.now in
    let same = names_are _ c.args.flat.now.signals.items tree c.deref-name-items.result.now _
    c.deref-name-items.ensures.value c.in_ok-names.ensures c.as_slice.ensures.value in
    ap (λ t. is_marked c.args.table.now s || t)
    (sym (any_map (λ (r : ReadForm). r.signal == s) read_form c.deref-name-items.result.now)
    ∙ ap (list_any (λ (r : ReadForm). r.signal == s)) same)

pub mark-requires : goal.mark-requires
mark-requires c =
    let items = c.deref-name-items.result.now in
    let i = c.loop-name.name-index in
    subst (λ n. (get_or items i no_read).signal.0 < n)
    (sym c.requires.size ∙ sym c.loop-name.auto.table)
    (name_inside c.args.flat.now (typed_tree c.args.expr.now) _ items _ i c.requires.formed
    c.deref-name-items.ensures.value c.in_ok-names.ensures c.as_slice.ensures.value
    c.loop-name-test.true)

pub loop-name-preserved : goal.loop-name-preserved
loop-name-preserved c =
    let items = c.deref-name-items.result.now in
    let i = c.loop-name.name-index in
    marks_more c.args.table.now c.loop-name.table c.mark.new.table
    (names_signal (design_of c.args.flat.now).signals (typed_tree c.args.expr.now))
    (λ s. list_any (λ (r : Read). r.signal.0 == s) (drop i items)) (λ s.
    (get_or items i no_read).signal.0 == s)
    (λ s. list_any (λ (r : Read). r.signal.0 == s) (drop (i + 1) items)) c.loop-name.auto.table
    (λ s. at_drop_more (list_any (λ (r : Read). r.signal.0 == s)) items i no_read
    c.loop-name-test.true)
    c.mark.ensures c.loop-name.invariant

pub returns : goal.returns
returns c =
    let items = c.deref-name-items.result.now in
    marks_end c.args.table.now c.loop-name.table
    (names_signal (design_of c.args.flat.now).signals (typed_tree c.args.expr.now))
    (λ s. list_any (λ (r : Read). r.signal.0 == s) (drop c.loop-name.name-index items))
    (λ s. at_drop_all (list_any (λ (r : Read). r.signal.0 == s)) items c.loop-name.name-index
    c.loop-name-test.false)
    c.loop-name.invariant
