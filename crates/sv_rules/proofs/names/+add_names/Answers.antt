use Rattle.std.proofs.Common.{◌≡◌, ◌++◌, ap, subst, rules, refl}
use Rattle.std.specs.Prelude.{OnOk}
use Rattle.sv_flat.specs.ByNumber.{signal_forms}
use Rattle.sv_flat.specs.declared.expressions.FNode.{the_lemmas}
use Rattle.sv_flat.specs.Readings.{parts_reads}
use Rattle.sv_flat.specs.Soundness.{is_one_to, node_well_formed}
use Rattle.sv_flat.specs.Views.{node_tree}
use Rattle.sv_flat.proofs.Depths.{second_of}
use Rattle.sv_flat.proofs.NodeForms.{join_few, repeat_few}
use Rattle.sv_flat.proofs.Parts.{trees, formed_at}
use Rattle.sv_rules.specs.ReadForms.{read_forms}
use Rattle.sv_rules.proofs.NameFacts.{names_more, row_reads}
use Rattle.sv_rules.proofs.names.+add_names.Goals as goal

pub add_all_names-add_names-requires : goal.add_all_names-add_names-requires
add_all_names-add_names-requires t c = (
  search (rules, the_lemmas),
  formed_at (signal_forms c.args.signals.now) c.args.exprs.now c.loop-expr.expr-index
      c.expr-item.result c.loop-expr-test.true c.expr-item.is c.requires,
)

pub add_all_names-loop-expr-preserved : goal.add_all_names-loop-expr-preserved
add_all_names-loop-expr-preserved t c =
    names_more c.args.exprs.now c.loop-expr.expr-index c.expr-item.result c.loop-expr-test.true
    c.expr-item.is (signal_forms c.args.signals.now)
    (read_forms c.args.names.now.items ++ parts_reads (signal_forms c.args.signals.now)
    (trees c.args.exprs.now))
    (read_forms c.loop-expr.names.items) (read_forms c.add_names.new.names.items)
    c.in_ok-add_names.ensures c.loop-expr.invariant

pub add_names-add_all_names-requires : goal.add_names-add_all_names-requires
add_names-add_all_names-requires t c =
    let signals = signal_forms c.args.signals.now in
    let e = c.args.expr.now in
    let formed = second_of (is_one_to 64 e.width)
    (node_well_formed signals e.width e.signed (node_tree e.node)) c.requires in
    let form = join_few signals e.width e.signed (node_tree e.node) c.in-Join.parts
    (ap node_tree c.in-Join.is) formed in
    (search (rules, the_lemmas), rw c.deref-in-Join.ensures.value form.1)

pub add_names-add_all_names-requires-in-Repeat : goal.add_names-add_all_names-requires-in-Repeat
add_names-add_all_names-requires-in-Repeat t c =
    let signals = signal_forms c.args.signals.now in
    let e = c.args.expr.now in
    let formed = second_of (is_one_to 64 e.width)
    (node_well_formed signals e.width e.signed (node_tree e.node)) c.requires in
    let form = repeat_few signals e.width e.signed (node_tree e.node) c.in-Repeat.field-0
    c.in-Repeat.parts (ap node_tree c.in-Repeat.is) formed in
    (search (rules, the_lemmas), rw c.deref-in-Repeat.ensures.value form.2)

pub add_names-returns-in-Join : goal.add_names-returns-in-Join
add_names-returns-in-Join t c =
    let signals = signal_forms c.args.signals.now in
    subst (λ rs. OnOk c.add_all_names.result (read_forms c.add_all_names.new.names.items ≡
    read_forms c.args.names.now.items ++ rs))
    (row_reads signals c.in-Join.parts c.deref-in-Join.ensures.value c.in-Join.is refl)
    c.add_all_names.ensures

pub add_names-returns-in-Repeat : goal.add_names-returns-in-Repeat
add_names-returns-in-Repeat t c =
    let signals = signal_forms c.args.signals.now in
    subst (λ rs. OnOk c.add_all_names-in-Repeat.result
    (read_forms c.add_all_names-in-Repeat.new.names.items ≡
    read_forms c.args.names.now.items ++ rs))
    (row_reads signals c.in-Repeat.parts c.deref-in-Repeat.ensures.value c.in-Repeat.is refl)
    c.add_all_names-in-Repeat.ensures
