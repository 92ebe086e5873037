use Rattle.std.proofs.Common.{[], refl}
use Rattle.sv_token.specs.declared.signs.SignKind.TheVariants as signs
use Rattle.sv_parse_machine.specs.Symbols.{statement}
use Rattle.sv_parse_machine.proofs.ReadRows.{sign_taken}
use Rattle.sv_parse_expr.proofs.Halting.{passed}
use Rattle.sv_parse_expr.proofs.ReadingRuns.{sign_is_there}
use Rattle.sv_parse_stmt.proofs.statements.read_null.Goals as goal

pub returns-in_err-rest-clause-halts : goal.returns-in_err-rest-clause-halts
returns-in_err-rest-clause-halts c = λ bytes n comes.
    passed _ _ _ c.from_residual.ensures.1
    (sign_is_there _ signs.Semicolon _ _ _ _ comes (c.in_err-rest.ensures.stops bytes))

pub returns-clause-reads : goal.returns-clause-reads
returns-clause-reads c =
    λ bytes n. sign_taken (statement n) signs.Semicolon [] _ _ refl (c.in_ok-rest.ensures.is bytes)
