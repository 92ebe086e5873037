use Rattle.std.proofs.Common.{sym, ap, ◌∙◌}
use Rattle.sv_flat.specs.Design.{join, replication}
use Rattle.sv_flat.specs.Views.{node_tree, typed_trees}
use Rattle.sv_flat.proofs.Rows.{same_parts}
use Rattle.sv_flat.proofs.expressions.+expression_copy.Goals as goal

pub FNode::copy-returns-in_ok-copies-in-Join : goal.FNode::copy-returns-in_ok-copies-in-Join
FNode::copy-returns-in_ok-copies-in-Join t c =
    let parts = c.in_ok-copies-in-Join.ensures ∙ ap typed_trees c.deref-in-Join.ensures.value in
    ap join (same_parts c.in_ok-copies-in-Join.field-0 c.in-Join.parts parts)
    ∙ ap node_tree (sym c.in-Join.is)

pub FNode::copy-returns-in_ok-copies-in-Repeat : goal.FNode::copy-returns-in_ok-copies-in-Repeat
FNode::copy-returns-in_ok-copies-in-Repeat t c =
    let parts = c.in_ok-copies-in-Repeat.ensures ∙ ap typed_trees c.deref-in-Repeat.ensures.value in
    ap (replication c.in-Repeat.count)
    (same_parts c.in_ok-copies-in-Repeat.field-0 c.in-Repeat.parts parts)
    ∙ ap node_tree (sym c.in-Repeat.is)
