-- Where the tokens of a text stand among its bytes.
use Rattle.std.specs.Prelude.{◌≡◌, ℕ, ◌-◌, ◌<◌, ◌≤◌, List, [], ◌∷◌, take, drop}
use Rattle.sv_token.specs.declared.tokens.Token.{Token}
use Rattle.sv_token.specs.Fronts.{token}
use Rattle.sv_token.specs.Lexemes.{lexeme_of}
use Rattle.sv_token.specs.Tokens.{front_at, first_place, place_behind}

-- the bytes of the token's span are the token that stands there
abbrev pub IsAtSpan : List ℕ → Token → Type 0
IsAtSpan bytes t =
    (b : ℕ) × (bs : List ℕ) × (drop t.start bytes ≡ b ∷ bs)
    × (front_at b bs ≡ token (lexeme_of bytes t.kind t.start t.«end») (t.«end» - t.start - 1))

-- the token's place is that of the first byte of its span
abbrev pub IsAtPlace : List ℕ → Token → Type 0
IsAtPlace bytes t = t.place ≡ place_behind first_place (take t.start bytes)

-- each span holds a byte or more, and begins where the one before it ends or later; the first from
-- `from` on
abbrev pub AreInOrder : ℕ → List Token → Type 0
AreInOrder from [] = Unit {0}
AreInOrder from (t ∷ ts) = (from ≤ t.start) × (t.start < t.«end») × AreInOrder t.«end» ts
