use Rattle.std.proofs.Common.{sym, ap, ◌∙◌}
use Rattle.sv_ast.specs.Tree.{join}
use Rattle.sv_ast.specs.Views.{expression_tree, expression_trees}
use Rattle.sv_ast.proofs.Rows.{same_parts, same_replication}
use Rattle.sv_ast.proofs.expressions.+expression_copy.Goals as goal

pub Expr::copy-returns-in_ok-copies-in-Join : goal.Expr::copy-returns-in_ok-copies-in-Join
Expr::copy-returns-in_ok-copies-in-Join t c =
    let parts = c.in_ok-copies-in-Join.ensures
    ∙ ap expression_trees c.deref-in-Join.ensures.value in
    ap (join c.in-Join.place) (same_parts c.in_ok-copies-in-Join.field-0 c.in-Join.parts parts)
    ∙ ap expression_tree (sym c.in-Join.is)

pub Expr::copy-returns-in_ok-copies-in-Repeat : goal.Expr::copy-returns-in_ok-copies-in-Repeat
Expr::copy-returns-in_ok-copies-in-Repeat t c =
    let count = c.in_ok-boxed-in-Repeat.ensures ∙ ap expression_tree c.deref-in-Repeat.ensures in
    let parts = c.in_ok-copies-in-Repeat.ensures
    ∙ ap expression_trees c.deref-in-Repeat-2.ensures.value in
    same_replication c.in-Repeat.place c.in_ok-copies-in-Repeat.field-0 c.in-Repeat.parts _ _
    count parts
    ∙ ap expression_tree (sym c.in-Repeat.is)
