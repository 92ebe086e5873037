-- Private: how the code goes. What is still to come of an arm of a case, as the table of statements
-- has it.
use Rattle.std.specs.Prelude.{ℕ, ◌+◌, ◌<◌, Bool, List, [], ◌∷◌}
use Rattle.sv_token.specs.declared.keywords.WordKind.TheVariants as words
use Rattle.sv_token.specs.Lexemes.{Placed}
use Rattle.sv_parse_machine.specs.Symbols.{State, outer, statement, arms, more_choices}
use Rattle.sv_parse_machine.specs.Reads.{NextIsNotWord}

-- the case does not end here: it has no arm yet, or its last word does not come
abbrev pub ArmComes : (before : ℕ) → List Placed → Type 0
ArmComes before ts = 0 < before → NextIsNotWord words.Endcase ts

-- behind what stands before the statement of an arm: the statement, and the further arms
abbrev pub behind_arm : ℕ → (before : ℕ) → (default : Bool) → State
behind_arm n before default = outer (statement n) ∷ outer (arms n (before + 1) default) ∷ []

-- behind the first item of an arm
abbrev pub behind_items : ℕ → (before : ℕ) → (default : Bool) → State
behind_items n before default = outer (more_choices n) ∷ behind_arm n before default
