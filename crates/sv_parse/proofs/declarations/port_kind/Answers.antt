use Rattle.std.proofs.Common.{refl, [], ◌∷◌}
use Rattle.sv_token.specs.declared.keywords.WordKind.TheVariants as words
use Rattle.sv_token.specs.Lexemes.{placed_tokens}
use Rattle.sv_parse_machine.proofs.ReadSteps.{reads_then}
use Rattle.sv_parse_machine.proofs.ReadRows.{word_taken}
use Rattle.sv_parse_machine.specs.Symbols.{ports, perhaps_wire, more_ports, later_port}
use Rattle.sv_parse_machine.specs.Symbols.{perhaps_wire_or_reg}
use Rattle.sv_parse_machine.specs.ModuleTable.{typed_name}
use Rattle.sv_parse.proofs.DeclarationRuns.{front_read}
use Rattle.sv_parse.proofs.ReadingDeclarations.{output_is}
use Rattle.sv_parse.proofs.declarations.port_kind.Goals as goal

pub returns-in-Some-clause-is : goal.returns-in-Some-clause-is
returns-in-Some-clause-is c =
    λ bytes. (
      placed_tokens bytes c.in-Some.rest.now,
      c.in-Some.ensures.is
          bytes,
      c.behind_wire.ensures.is bytes,
    )

pub returns-in-Some-clause-first : goal.returns-in-Some-clause-first
returns-in-Some-clause-first c =
    λ bytes. reads_then _ _ _ _ _ _
    (word_taken ports words.Input (perhaps_wire ∷ typed_name (more_ports ∷ [])) _ _ refl
    (c.in-Some.ensures.is bytes))
    (front_read _ _ _ _ (c.behind_wire.ensures.reads bytes))

pub returns-in-Some-clause-later : goal.returns-in-Some-clause-later
returns-in-Some-clause-later c =
    λ bytes. reads_then _ _ _ _ _ _
    (word_taken later_port words.Input (perhaps_wire ∷ typed_name []) _ _ refl
    (c.in-Some.ensures.is bytes))
    (front_read _ _ _ _ (c.behind_wire.ensures.reads bytes))

pub returns-in-Some-behind_word-clause-is : goal.returns-in-Some-behind_word-clause-is
returns-in-Some-behind_word-clause-is c =
    λ bytes. output_is c.output_kind-kind.result.0 _ _ _ (c.in-Some-behind_word.ensures.is bytes)
    (c.output_kind-kind.ensures.is bytes)

pub returns-in-Some-behind_word-clause-first : goal.returns-in-Some-behind_word-clause-first
returns-in-Some-behind_word-clause-first c =
    λ bytes. reads_then _ _ _ _ _ _
    (word_taken ports words.Output (perhaps_wire_or_reg ∷ typed_name (more_ports ∷ [])) _ _ refl
    (c.in-Some-behind_word.ensures.is bytes))
    (front_read _ _ _ _ (c.output_kind-kind.ensures.reads bytes))

pub returns-in-Some-behind_word-clause-later : goal.returns-in-Some-behind_word-clause-later
returns-in-Some-behind_word-clause-later c =
    λ bytes. reads_then _ _ _ _ _ _
    (word_taken later_port words.Output (perhaps_wire_or_reg ∷ typed_name []) _ _ refl
    (c.in-Some-behind_word.ensures.is bytes))
    (front_read _ _ _ _ (c.output_kind-kind.ensures.reads bytes))
