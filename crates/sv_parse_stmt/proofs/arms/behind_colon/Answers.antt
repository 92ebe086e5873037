use Rattle.std.proofs.Common.{[], refl}
use Rattle.sv_token.specs.declared.signs.SignKind.TheVariants as signs
use Rattle.sv_parse_machine.specs.Symbols.{perhaps_colon}
use Rattle.sv_parse_machine.proofs.ReadRows.{sign_taken}
use Rattle.sv_parse_stmt.proofs.arms.behind_colon.Goals as goal

pub returns-in-Some-clause-reads : goal.returns-in-Some-clause-reads
returns-in-Some-clause-reads c =
    λ bytes. sign_taken perhaps_colon signs.Colon [] _ _ refl (c.in-Some.ensures.is bytes)
