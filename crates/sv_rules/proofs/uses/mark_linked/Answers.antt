use Rattle.std.proofs.Common.{ℕ, ◌+◌, ◌∷◌, ◌||◌, ◌==◌, length, map, drop, sym, ap, subst, ◌∙◌}
use Rattle.std.specs.List.{list_any}
use Rattle.std.proofs.Math.ListN.{length-map}
use Rattle.std.proofs.lemmas.List.{at_drop_all, at_drop_more}
use Rattle.sv_flat.specs.Clocks.{link_in, links_in}
use Rattle.sv_flat.specs.Views.{design_of, process_form, signal_form}
use Rattle.sv_rules.specs.Links.{links_in_of, IsBelow}
use Rattle.sv_graph.specs.Marks.{is_marked, Marks}
use Rattle.sv_rules.specs.Selectors.{is_port}
use Rattle.sv_rules.proofs.LinkFacts.{link_in_below}
use Rattle.sv_graph.proofs.MarkFacts.{marks_more, marks_end}
use Rattle.sv_rules.proofs.Sound.{process_at}
use Rattle.sv_rules.proofs.UseFacts.{port_first}
use Rattle.sv_rules.proofs.uses.mark_linked.Goals as goal

pub loop-process-init : goal.loop-process-init
loop-process-init c = λ s below.
    ap (λ ps. is_marked c.args.table.now s || list_any (λ (pair : ℕ × ℕ).
    pair.0 == s) (links_in_of (map process_form ps)))
    c.deref-process-items.ensures.value

pub mark_port-requires : goal.mark_port-requires
mark_port-requires c =
    let design = design_of c.args.flat.now in
    let p = process_form c.process-item.result in
    let sound = process_at c.args.flat.now _ _ _ c.deref-process-items.ensures.value
    c.loop-process-test.true c.process-item.is c.requires.sound in
    subst (IsBelow (length c.loop-process.table)) (sym c.link_in.ensures)
    (subst (λ n. IsBelow n (link_in p))
    (length-map c.args.flat.now.signals.items signal_form ∙ sym c.requires.size
    ∙ sym c.loop-process.auto.table)
    (link_in_below design p sound))

pub loop-process-preserved : goal.loop-process-preserved
loop-process-preserved c =
    let processes = c.deref-process-items.result.now in
    let i = c.loop-process.process-index in
    let p = c.process-item.result in
    let rest = map process_form (drop (i + 1) processes) in
    marks_more c.args.table.now c.loop-process.table c.mark_port.new.table
    (λ s. list_any (λ (pair : ℕ × ℕ). pair.0 == s) (links_in (design_of c.args.flat.now)))
    (λ s. list_any (λ (pair : ℕ × ℕ).
    pair.0 == s) (links_in_of (map process_form (drop i processes))))
    (λ s. is_port (link_in (process_form p)) s)
    (λ s. list_any (λ (pair : ℕ × ℕ). pair.0 == s) (links_in_of rest)) c.loop-process.auto.table
    (λ s. at_drop_more (λ ps.
    list_any (λ (pair : ℕ × ℕ). pair.0 == s) (links_in_of (map process_form ps))) processes i p
    c.loop-process-test.true
    ∙ ap (λ q. list_any (λ (pair : ℕ × ℕ). pair.0 == s) (links_in_of (process_form q ∷ rest)))
    (sym c.process-item.is)
    ∙ port_first (link_in (process_form p)) (links_in_of rest) s)
    (subst (λ o. Marks c.loop-process.table c.mark_port.new.table (is_port o)) c.link_in.ensures
    c.mark_port.ensures)
    c.loop-process.invariant

pub returns : goal.returns
returns c =
    let processes = c.deref-process-items.result.now in
    marks_end c.args.table.now c.loop-process.table (λ s.
    list_any (λ (pair : ℕ × ℕ). pair.0 == s) (links_in (design_of c.args.flat.now)))
    (λ s. list_any (λ (pair : ℕ × ℕ).
    pair.0 == s) (links_in_of (map process_form (drop c.loop-process.process-index processes))))
    (λ s. at_drop_all (λ ps.
    list_any (λ (pair : ℕ × ℕ). pair.0 == s) (links_in_of (map process_form ps))) processes
    c.loop-process.process-index c.loop-process-test.false)
    c.loop-process.invariant
