use Rattle.std.proofs.Common.{ap, ◌∙◌}
use Rattle.sv_ast.specs.declared.expressions.Expr.TheBlock.{hidden-the_row-Expr-0}
use Rattle.sv_ast.specs.Tree as tree
use Rattle.sv_ast.specs.Views.{expression_tree, row_parts}
use Rattle.sv_ast.proofs.Rows.{row_parts-hidden}
use Rattle.sv_parse_expr.proofs.nodes.repeat.Goals as goal

pub returns : goal.returns
returns c =
    ap (λ e. tree.replication c.args.place (expression_tree e)
    (row_parts (hidden-the_row-Expr-0 c.args.parts))) c.in_ok-new.ensures.ok
    ∙ ap (tree.replication c.args.place (expression_tree c.args.count))
    (row_parts-hidden c.args.parts)
