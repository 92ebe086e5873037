use Rattle.std.proofs.Common.{refl, []}
use Rattle.sv_token.specs.declared.keywords.WordKind.TheVariants as words
use Rattle.sv_parse_machine.proofs.ReadRows.{word_taken}
use Rattle.sv_parse_machine.specs.Symbols.{perhaps_signed}
use Rattle.sv_parse.proofs.types.is_signed.Goals as goal

pub returns-in-Some-clause-reads : goal.returns-in-Some-clause-reads
returns-in-Some-clause-reads c =
    λ bytes. (word_taken perhaps_signed words.Signed [] _ _ refl (c.in-Some.ensures.is bytes))
