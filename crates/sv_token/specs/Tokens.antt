-- The tokens of a text (IEEE 1364-2005, clause 3), and the first place where it breaks a rule on
-- tokens.
use Rattle.std.specs.Prelude.{◌≡◌, ℕ, ◌+◌, if◌then◌else◌, List, [], ◌∷◌, drop, take, fold, codes}
use Rattle.sv_num.specs.declared.faults.Place.{Place}
use Rattle.sv_token.specs.Bytes.{is_blank, is_line_feed, is_digit, begins_name, begin_with}
use Rattle.sv_token.specs.Fronts.{Front, gap, token, broken, unsupported}
use Rattle.sv_token.specs.Gaps.{rest_of_line, block_comment_at, directive_at}
use Rattle.sv_token.specs.Lexemes.{Lexeme, Placed}
use Rattle.sv_token.specs.Numerals.{number_at, unsized_number_at}
use Rattle.sv_token.specs.Signs.{sign_at}
use Rattle.sv_token.specs.Words.{name_at, system_name_at}

-- what stands at the front of the bytes, of which b is the first
unfoldable pub front_at : ℕ → List ℕ → Front
front_at b bs =
    let bytes = b ∷ bs in
    if is_blank b then gap 0
    else (if begin_with (codes "//") bytes then gap (rest_of_line bs)
    else (if begin_with (codes "/*") bytes then block_comment_at bs
    else (if begin_with (codes "`") bytes then directive_at bs
    else (if begin_with (codes "\\") bytes then unsupported (codes "escaped-name")
    else (if begin_with (codes "\"") bytes then unsupported (codes "string")
    else (if begin_with (codes "$") bytes then system_name_at bs
    else (if begin_with (codes "'") bytes then unsized_number_at bs
    else (if is_digit b then number_at b bs
    else (if begins_name b then name_at b bs
    else sign_at bytes)))))))))

-- the place of a text's first byte
abbrev pub first_place : Place
first_place = record { line = 1; column = 1 }

-- the place behind a byte: a line feed ends its line
abbrev pub next_place : Place → ℕ → Place
next_place place b =
    if is_line_feed b then record { line = place.line + 1; column = 1 }
    else record { line = place.line; column = place.column + 1 }

-- the place behind a text that begins at a place
abbrev pub place_behind : Place → List ℕ → Place
place_behind place text = fold next_place place text

-- from a place on the bytes have these tokens, up to the place `stop` from which the bytes `rest`
-- are left
pub data HasTokensUpTo (stop : Place) (rest : List ℕ) : Place → List ℕ → List Placed → Type 0 where
  stopped : HasTokensUpTo stop rest stop rest []
  past_gap : {place : Place} {b : ℕ} {bs : List ℕ} {n : ℕ} {ts : List Placed} →
      front_at b bs ≡ gap n →
      HasTokensUpTo stop rest (place_behind place (b ∷ take n bs)) (drop n bs) ts →
      HasTokensUpTo stop rest place (b ∷ bs) ts
  past_token : {place : Place} {b : ℕ} {bs : List ℕ} {lexeme : Lexeme} {n : ℕ} {ts : List Placed} →
      front_at b bs ≡ token lexeme n →
      HasTokensUpTo stop rest (place_behind place (b ∷ take n bs)) (drop n bs) ts →
      HasTokensUpTo stop rest place (b ∷ bs) (record { lexeme = lexeme; place = place } ∷ ts)

-- the bytes are these tokens, each at its place, with gaps before, between and behind them
abbrev pub AreTokensOf : List ℕ → List Placed → Type 0
AreTokensOf bytes ts = (stop : Place) × HasTokensUpTo stop [] first_place bytes ts

-- the bytes are tokens and gaps up to this place, and there they break a rule
abbrev pub BreaksLexis : ℕ → List (List ℕ) → Place → List ℕ → Type 0
BreaksLexis number names place bytes =
    (ts : List Placed) × (b : ℕ) × (bs : List ℕ)
    × HasTokensUpTo place (b ∷ bs) first_place bytes ts × (front_at b bs ≡ broken number names)
