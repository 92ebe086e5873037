use Rattle.std.proofs.Common.{refl}
use Rattle.sv_parse_expr.proofs.Halting.{passed}
use Rattle.sv_parse.proofs.parameters.read_named_param.Goals as goal

pub returns-clause-is : goal.returns-clause-is
returns-clause-is c = ((refl, refl, refl), c.in_ok-name.ensures.is)

pub returns-in_err-name-clause-halts : goal.returns-in_err-name-clause-halts
returns-in_err-name-clause-halts c =
    passed _ _ _ c.from_residual.ensures.1 c.in_err-name.ensures.halts
