use Rattle.std.proofs.Common.{refl, []}
use Rattle.sv_token.specs.declared.keywords.WordKind.TheVariants as words
use Rattle.sv_parse_machine.proofs.ReadRows.{word_taken}
use Rattle.sv_parse_machine.specs.Symbols.{perhaps_wire, perhaps_wire_or_reg}
use Rattle.sv_parse.proofs.declarations.behind_wire.Goals as goal

pub returns-in-Some-clause-reads : goal.returns-in-Some-clause-reads
returns-in-Some-clause-reads c =
    λ bytes. (word_taken perhaps_wire words.Wire [] _ _ refl (c.in-Some.ensures.is bytes))

pub returns-in-Some-clause-output : goal.returns-in-Some-clause-output
returns-in-Some-clause-output c =
    λ bytes no_reg.
    (word_taken perhaps_wire_or_reg words.Wire [] _ _ refl (c.in-Some.ensures.is bytes))
