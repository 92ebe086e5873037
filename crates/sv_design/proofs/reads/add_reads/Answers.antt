use Rattle.std.proofs.Common.{◌+◌, ◌&&◌, ◌||◌, ◌==◌, ℕ, length, get_or, drop, sym, ap, subst, ◌∙◌}
use Rattle.std.specs.List.{list_any}
use Rattle.std.proofs.lemmas.List.{at_drop_all, at_drop_more}
use Rattle.sv_flat.specs.Readings.{ReadForm}
use Rattle.sv_flat.specs.Views.{design_of, typed_tree}
use Rattle.sv_rules.specs.declared.names.Read.{Read}
use Rattle.sv_graph.specs.BitGraphs.{in_row, IsRow, has_edge}
use Rattle.sv_graph.specs.BitSets.{has_some}
use Rattle.sv_design.specs.Feeds.{is_sought, names_sought}
use Rattle.sv_rules.specs.ReadForms.{read_form}
use Rattle.sv_rules.specs.Surroundings.{in_surrounding}
use Rattle.sv_graph.proofs.GraphFacts.{edges_more, edges_end}
use Rattle.sv_graph.proofs.MarkFacts.{any_map}
use Rattle.sv_rules.proofs.PhaseFacts.{no_read, names_are, name_inside}
use Rattle.sv_design.proofs.ReadFacts.{names_more}
use Rattle.sv_design.proofs.reads.add_reads.Goals as goal

pub loop-name-init : goal.loop-name-init
loop-name-init c =
    let tree = typed_tree c.args.expr.now in
    let signals = (design_of c.args.flat.now).signals in
    let later = in_surrounding c.args.served.now.later.now in
    let test = λ (a : ℕ) (r : ReadForm). (r.signal == a) && is_sought signals c.args.sought later r in
    let same = names_are _ c.args.flat.now.signals.items tree c.deref-name-items.result.now _
    c.deref-name-items.ensures.value c.in_ok-names.ensures c.as_slice.ensures.value in (
      c.requires.over,
      λ a b. ap (λ t. has_edge c.args.graph.now a b || t && has_some c.args.served.now.targets.now b)
          (sym (any_map (test a) read_form c.deref-name-items.result.now)
          ∙ ap (list_any (test a)) same),
    )

pub add_name-requires-clause-known : goal.add_name-requires-clause-known
add_name-requires-clause-known c =
    name_inside c.args.flat.now (typed_tree c.args.expr.now) _ c.deref-name-items.result.now _
    c.loop-name.name-index c.requires.formed c.deref-name-items.ensures.value c.in_ok-names.ensures
    c.as_slice.ensures.value c.loop-name-test.true

pub add_name-requires-clause-targets : goal.add_name-requires-clause-targets
add_name-requires-clause-targets c =
    subst (IsRow (length c.args.flat.now.signals.items)) (sym c.deref.ensures.value)
    (subst (λ n. IsRow n c.in_ok-row.row.items) (c.len.ensures ∙ c.args.flat.now.signals.ok.0)
    c.in_ok-row.ensures.row)

pub loop-name-preserved : goal.loop-name-preserved
loop-name-preserved c =
    let items = c.deref-name-items.result.now in
    let i = c.loop-name.name-index in
    let set = c.args.served.now.targets.now in
    let signals = (design_of c.args.flat.now).signals in
    let later = in_surrounding c.args.served.now.later.now in
    let test = λ (a : ℕ) (r : Read).
    (r.signal.0 == a) && is_sought signals c.args.sought later (read_form r) in
    let this = get_or items i no_read in (
      c.add_name.ensures.over,
      edges_more (has_edge c.args.graph.now) (has_edge c.loop-name.graph)
          (has_edge c.add_name.new.graph)
          (λ a b. names_sought signals c.args.sought later (typed_tree c.args.expr.now) a
          && has_some set b)
          (λ a b. list_any (test a) (drop i items) && has_some set b)
          (λ a b. test a this && has_some set b)
          (λ a b. list_any (test a) (drop (i + 1) items) && has_some set b)
          (λ a b. ap (λ t. t && has_some set b)
          (at_drop_more (list_any (test a)) items i no_read c.loop-name-test.true)
          ∙ names_more (test a this) (list_any (test a) (drop (i + 1) items)) (has_some set b))
          (λ a b. c.add_name.ensures.gains a b
          ∙ ap (λ t. has_edge c.loop-name.graph a b || (test a this && t))
          (ap (λ r. in_row r b) c.deref.ensures.value ∙ c.in_ok-row.ensures.bits b))
          c.loop-name.invariant.1,
    )

pub returns-clause-gains : goal.returns-clause-gains
returns-clause-gains c =
    let items = c.deref-name-items.result.now in
    let set = c.args.served.now.targets.now in
    let signals = (design_of c.args.flat.now).signals in
    let later = in_surrounding c.args.served.now.later.now in
    let test = λ (a : ℕ) (r : Read).
    (r.signal.0 == a) && is_sought signals c.args.sought later (read_form r) in
    edges_end (has_edge c.args.graph.now) (has_edge c.loop-name.graph)
    (λ a b. names_sought signals c.args.sought later (typed_tree c.args.expr.now) a
    && has_some set b)
    (λ a b. list_any (test a) (drop c.loop-name.name-index items) && has_some set b)
    (λ a b. ap (λ t. t && has_some set b)
    (at_drop_all (list_any (test a)) items c.loop-name.name-index c.loop-name-test.false))
    c.loop-name.invariant.1
