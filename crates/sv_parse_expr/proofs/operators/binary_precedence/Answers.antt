use Rattle.std.proofs.Common.{◌≡◌, Some, sym}
use Rattle.sv_parse_expr.proofs.ReadingOperators.{row_precedence}
use Rattle.sv_parse_expr.proofs.operators.binary_precedence.Goals as goal

pub returns : goal.returns
returns c =
    let known : c.args.operator.binary ≡ Some c.in_ok-operator.field-0 = cc in
    row_precedence c.args.operator c.in_ok-operator.field-0 c.in_ok-row.row.now known
    (sym c.in_ok-row.ensures)
