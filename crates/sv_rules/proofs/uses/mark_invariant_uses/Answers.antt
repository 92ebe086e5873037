use Rattle.std.proofs.Common.{◌+◌, ◌||◌, map, drop, sym, ap, subst}
use Rattle.std.specs.Prelude.{Contains}
use Rattle.std.specs.List.{list_any}
use Rattle.std.proofs.lemmas.List.{at_drop_all}
use Rattle.std.proofs.lemmas.List.Elements.{Contains-get_or}
use Rattle.sv_system.proofs.Lists.{Contains-map}
use Rattle.sv_flat.specs.Design.{InvariantForm}
use Rattle.sv_flat.specs.Readings.{names_signal}
use Rattle.sv_flat.specs.Views.{design_of, invariant_form}
use Rattle.sv_graph.specs.Marks.{is_marked}
use Rattle.sv_graph.proofs.MarkFacts.{marks_more, marks_end}
use Rattle.sv_graph.proofs.ListFacts.{any_more}
use Rattle.sv_rules.proofs.UseFacts.{invariant_formed}
use Rattle.sv_rules.proofs.uses.mark_invariant_uses.Goals as goal

pub loop-invariant-init : goal.loop-invariant-init
loop-invariant-init c = λ s below.
    ap (λ zs. is_marked c.args.table.now s || list_any (λ (i : InvariantForm).
    names_signal (design_of c.args.flat.now).signals i.expression s) (map invariant_form zs))
    c.deref-invariant-items.ensures.value

pub mark_names-requires-clause-formed : goal.mark_names-requires-clause-formed
mark_names-requires-clause-formed c =
    let items = c.deref-invariant-items.result.now in
    let one = c.invariant-item.result in
    let member = Contains-map invariant_form c.args.flat.now.invariants.items one
    (subst (λ zs. Contains zs one) c.deref-invariant-items.ensures.value
    (subst (Contains items) (sym c.invariant-item.is)
    (Contains-get_or items c.loop-invariant.invariant-index one c.loop-invariant-test.true))) in
    invariant_formed (design_of c.args.flat.now) c.requires.sound (invariant_form one) member

pub loop-invariant-preserved : goal.loop-invariant-preserved
loop-invariant-preserved c =
    let design = design_of c.args.flat.now in
    let items = c.deref-invariant-items.result.now in
    let i = c.loop-invariant.invariant-index in
    marks_more c.args.table.now c.loop-invariant.table c.mark_names.new.table
    (λ s. list_any (λ (z : InvariantForm).
    names_signal design.signals z.expression s) design.invariants)
    (λ s. list_any (λ (z : InvariantForm).
    names_signal design.signals z.expression s) (map invariant_form (drop i items)))
    (λ s. names_signal design.signals (invariant_form c.invariant-item.result).expression s)
    (λ s. list_any (λ (z : InvariantForm).
    names_signal design.signals z.expression s) (map invariant_form (drop (i + 1) items)))
    c.loop-invariant.auto.table
    (λ s. any_more invariant_form (λ (z : InvariantForm).
    names_signal design.signals z.expression s) items i c.invariant-item.result
    c.loop-invariant-test.true c.invariant-item.is)
    c.in_ok-mark_names.ensures c.loop-invariant.invariant

pub returns : goal.returns
returns c =
    let design = design_of c.args.flat.now in
    let items = c.deref-invariant-items.result.now in
    marks_end c.args.table.now c.loop-invariant.table
    (λ s. list_any (λ (z : InvariantForm).
    names_signal design.signals z.expression s) design.invariants)
    (λ s. list_any (λ (z : InvariantForm).
    names_signal design.signals z.expression s)
    (map invariant_form (drop c.loop-invariant.invariant-index items)))
    (λ s. at_drop_all (λ zs.
    list_any (λ (z : InvariantForm).
    names_signal design.signals z.expression s) (map invariant_form zs)) items
    c.loop-invariant.invariant-index c.loop-invariant-test.false)
    c.loop-invariant.invariant
