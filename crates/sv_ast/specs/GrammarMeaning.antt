-- What the bytes of a text mean, and which rule on tokens or on the grammar they break first.
use Rattle.std.specs.Prelude.{ℕ, List, ◌⊎◌}
use Rattle.sv_num.specs.declared.faults.Place.{Place}
use Rattle.sv_token.specs.Lexemes.{Placed}
use Rattle.sv_token.specs.Tokens.{AreTokensOf, BreaksLexis, first_place, place_behind}
use Rattle.sv_ast.specs.Tree.{TextTree}
use Rattle.sv_ast.specs.GrammarRules.{TokensMean, BreaksGrammar}

-- the bytes are tokens, and these are a text of the tree within the limits
abbrev pub Means : (bytes : List ℕ) → TextTree → Type 0
Means bytes text = (tokens : List Placed) × AreTokensOf bytes tokens × TokensMean tokens text

-- the place behind the last byte, where a text ends
abbrev pub end_place : (bytes : List ℕ) → Place
end_place bytes = place_behind first_place bytes

-- the bytes break a rule of 101 to 104 first; or they are tokens, and these break a rule of 201 to
-- 204 first
abbrev pub BreaksSyntax : (number : ℕ) → (names : List (List ℕ)) → Place → (bytes : List ℕ) → Type 0
BreaksSyntax number names place bytes =
    BreaksLexis number names place bytes
    ⊎ ((tokens : List Placed) × AreTokensOf bytes tokens
    × BreaksGrammar number names place (end_place bytes) tokens)
