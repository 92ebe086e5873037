use Rattle.std.proofs.Common.{refl, [], ◌∷◌, ◌++◌}
use Rattle.sv_token.specs.declared.keywords.WordKind.TheVariants as words
use Rattle.sv_parse_machine.proofs.ReadRows.{word_taken}
use Rattle.sv_parse_machine.specs.Symbols.{items, more_parameters}
use Rattle.sv_parse.specs.ReadingDeclarations.{typed_value}
use Rattle.sv_parse.proofs.parameters.is_local.Goals as goal

pub returns-in-Some-clause-reads : goal.returns-in-Some-clause-reads
returns-in-Some-clause-reads c =
    λ bytes next. (word_taken items words.Parameter (typed_value ++ more_parameters ∷ items ∷ []) _
    _ refl (c.in-Some.ensures.is bytes))

pub returns-in-Some-behind_word-clause-reads : goal.returns-in-Some-behind_word-clause-reads
returns-in-Some-behind_word-clause-reads c =
    λ bytes next. (word_taken items words.Localparam (typed_value ++ more_parameters ∷ items ∷ []) _
    _ refl (c.in-Some-behind_word.ensures.is bytes))
