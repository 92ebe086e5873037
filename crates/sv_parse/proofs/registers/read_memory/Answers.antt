use Rattle.sv_parse_expr.proofs.Halting.{passed}
use Rattle.sv_parse.proofs.registers.read_memory.Goals as goal

pub returns-in_err-first-clause-halts : goal.returns-in_err-first-clause-halts
returns-in_err-first-clause-halts c =
    λ bytes. passed _ _ _ c.from_residual.ensures.1
    (c.in_err-first.ensures.halts bytes)
