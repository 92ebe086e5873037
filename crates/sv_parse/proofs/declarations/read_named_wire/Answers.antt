use Rattle.sv_parse_expr.proofs.Halting.{passed}
use Rattle.sv_parse.proofs.ReadingDeclarations.{wire_as}
use Rattle.sv_parse.proofs.declarations.read_named_wire.Goals as goal

pub returns-clause-is : goal.returns-clause-is
returns-clause-is c =
    let named = c.in_ok-name.ensures.is in
    wire_as _ _ _ _ _ _ _ _ _ _ c.declaration.ensures named.1 named.2

pub returns-in_err-name-clause-halts : goal.returns-in_err-name-clause-halts
returns-in_err-name-clause-halts c =
    passed _ _ _ c.from_residual.ensures.1 c.in_err-name.ensures.halts
