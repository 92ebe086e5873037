-- What can stand at the front of the bytes that are left.
use Rattle.std.specs.Prelude.{ℕ, List, [], ◌∷◌}
use Rattle.sv_token.specs.Lexemes.{Lexeme}

-- the first byte and so many behind it are a gap between tokens; or they are a token; or a rule is
-- broken, with its number and its names
pub data Front : Type 0 where
  gap : ℕ → Front
  token : Lexeme → ℕ → Front
  broken : ℕ → List (List ℕ) → Front

-- the byte begins no token
abbrev pub bad_byte : Front
bad_byte = broken 101 []

abbrev pub bad_number : Front
bad_number = broken 102 []

-- `/*` has no `*/`
abbrev pub open_comment : Front
open_comment = broken 103 []

-- a form of the standard that is left out, by its word
abbrev pub unsupported : List ℕ → Front
unsupported form = broken 104 (form ∷ [])
