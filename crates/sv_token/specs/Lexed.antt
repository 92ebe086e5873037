-- Private: how the code goes. The plain program that finds the tokens of a text, or the place where
-- it breaks a rule on tokens; the meaning stands in Tokens.antt.
use Rattle.std.specs.Prelude.{ℕ, zero, suc, List, [], ◌∷◌}
use Rattle.sv_num.specs.declared.faults.Place.{Place}
use Rattle.sv_token.specs.Fronts.{Front, gap, token, broken}
use Rattle.sv_token.specs.Lexemes.{Placed}
use Rattle.sv_token.specs.Tokens.{front_at, next_place, first_place}

-- what a text is: tokens, or a broken rule with its names and its place
pub data Lexed : Type 0 where
  tokens : List Placed → Lexed
  refused : ℕ → List (List ℕ) → Place → Lexed

-- a token before the others
abbrev pub before : Placed → Lexed → Lexed
before t (tokens ts) = tokens (t ∷ ts)
before t (refused number names place) = refused number names place

-- what stands at a place, and then what the bytes behind are, by how many of them are passed over
abbrev pub with_front : Front → Place → (ℕ → Lexed) → Lexed
with_front (gap n) place others = others n
with_front (token lexeme n) place others =
    before (record { lexeme = lexeme; place = place }) (others n)
with_front (broken number names) place others = refused number names place

-- the bytes from a place on, of which the first n belong to what stands before
abbrev pub lexed_from : ℕ → Place → List ℕ → Lexed
lexed_from n place [] = tokens []
lexed_from (suc n) place (b ∷ bs) = lexed_from n (next_place place b) bs
lexed_from zero place (b ∷ bs) =
    with_front (front_at b bs) place (λ n. lexed_from n (next_place place b) bs)

abbrev pub lexed : List ℕ → Lexed
lexed bytes = lexed_from 0 first_place bytes
