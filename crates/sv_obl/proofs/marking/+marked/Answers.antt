use Rattle.std.proofs.Common.{true, sym, ap, ◌∙◌, rules}
use Rattle.sv_flat.specs.ByNumber.{signal_forms}
use Rattle.sv_flat.specs.declared.expressions.FNode.{the_lemmas}
use Rattle.sv_flat.specs.Design.{join, replication}
use Rattle.sv_flat.specs.Soundness.{is_one_to, node_well_formed}
use Rattle.sv_flat.specs.Views.{node_tree}
use Rattle.sv_flat.proofs.Depths.{second_of}
use Rattle.sv_flat.proofs.NodeForms.{join_few, repeat_few}
use Rattle.sv_flat.proofs.Parts.{formed_at}
use Rattle.sv_rules.specs.Surroundings.{in_surrounding}
use Rattle.sv_obl.specs.Exchange.{exchanged_node}
use Rattle.sv_obl.specs.Wanted.{mark}
use Rattle.sv_obl.proofs.MarkingFacts.{row_exchanged}
use Rattle.sv_obl.proofs.marking.+marked.Goals as goal

pub marked_parts-marked_expr-requires : goal.marked_parts-marked_expr-requires
marked_parts-marked_expr-requires t c = (
  search (rules, the_lemmas),
  (
    c.requires.few,
    (
      c.requires.words,
      formed_at (signal_forms c.args.signals.now) c.args.exprs.now c.loop-expr.expr-index
          c.expr-item.result c.loop-expr-test.true c.expr-item.is c.requires.formed,
    ),
  ),
)

pub marked_node-marked_parts-requires : goal.marked_node-marked_parts-requires
marked_node-marked_parts-requires t c =
    let signals = signal_forms c.args.signals.now in
    let e = c.args.expr.now in
    let formed = second_of (is_one_to 64 e.width)
    (node_well_formed signals e.width e.signed (node_tree e.node)) c.requires.formed in
    let form = join_few signals e.width e.signed (node_tree e.node) c.in-Join.parts
    (ap node_tree c.in-Join.is) formed in (
      search (rules, the_lemmas),
      (
        c.requires.few,
        (
          c.requires.words,
          rw c.deref-in-Join.ensures.value form.1,
        ),
      ),
    )

pub marked_node-marked_parts-requires-in-Repeat : goal.marked_node-marked_parts-requires-in-Repeat
marked_node-marked_parts-requires-in-Repeat t c =
    let signals = signal_forms c.args.signals.now in
    let e = c.args.expr.now in
    let formed = second_of (is_one_to 64 e.width)
    (node_well_formed signals e.width e.signed (node_tree e.node)) c.requires.formed in
    let form = repeat_few signals e.width e.signed (node_tree e.node) c.in-Repeat.count
    c.in-Repeat.parts (ap node_tree c.in-Repeat.is) formed in (
      search (rules, the_lemmas),
      (
        c.requires.few,
        (
          c.requires.words,
          rw c.deref-in-Repeat.ensures.value form.2,
        ),
      ),
    )

pub marked_node-returns-in_ok-marked_parts-in-Join : goal.marked_node-returns-in_ok-marked_parts-in-Join
marked_node-returns-in_ok-marked_parts-in-Join t c =
    let signals = signal_forms c.args.signals.now in
    let instead = mark signals true (in_surrounding c.args.later.now) in
    ap join (row_exchanged signals instead c.in_ok-marked_parts-in-Join.field-0 c.in-Join.parts
    c.deref-in-Join.result.now c.deref-in-Join.ensures.value c.in_ok-marked_parts-in-Join.ensures)
    ∙ ap (exchanged_node signals instead) (ap node_tree (sym c.in-Join.is))

pub marked_node-returns-in_ok-marked_parts-in-Repeat : goal.marked_node-returns-in_ok-marked_parts-in-Repeat
marked_node-returns-in_ok-marked_parts-in-Repeat t c =
    let signals = signal_forms c.args.signals.now in
    let instead = mark signals true (in_surrounding c.args.later.now) in
    ap (replication c.in-Repeat.count)
    (row_exchanged signals instead c.in_ok-marked_parts-in-Repeat.field-0 c.in-Repeat.parts
    c.deref-in-Repeat.result.now c.deref-in-Repeat.ensures.value
    c.in_ok-marked_parts-in-Repeat.ensures)
    ∙ ap (exchanged_node signals instead) (ap node_tree (sym c.in-Repeat.is))
