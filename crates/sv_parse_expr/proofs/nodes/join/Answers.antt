use Rattle.std.proofs.Common.{ap}
use Rattle.sv_ast.specs.Tree as tree
use Rattle.sv_ast.proofs.Rows.{row_parts-hidden}
use Rattle.sv_parse_expr.proofs.nodes.join.Goals as goal

pub returns : goal.returns
returns c = ap (tree.join c.args.place) (row_parts-hidden c.args.parts)
