-- Bytes and what they can stand in (IEEE 1364-2005, clause 3). Letters are those of ASCII.
use Rattle.std.specs.Prelude.{ℕ, Bool, false, ◌&&◌, ◌||◌, nat_eq, nat_le, List, [], ◌∷◌, find}
use Rattle.std.specs.Prelude.{Option, option_map}
use Rattle.std.specs.List.{starts_with}
use Rattle.std.specs.Str.{bytes_eq}

-- space, tab, carriage return, line feed, form feed
abbrev pub is_blank : ℕ → Bool
is_blank b = nat_eq b 32 || nat_eq b 9 || nat_eq b 13 || nat_eq b 10 || nat_eq b 12

-- a line feed; no other byte ends a line
abbrev pub is_line_feed : ℕ → Bool
is_line_feed b = nat_eq b 10

abbrev pub is_upper_case : ℕ → Bool
is_upper_case b = nat_le 65 b && nat_le b 90

abbrev pub is_lower_case : ℕ → Bool
is_lower_case b = nat_le 97 b && nat_le b 122

abbrev pub is_letter : ℕ → Bool
is_letter b = is_upper_case b || is_lower_case b

abbrev pub is_digit : ℕ → Bool
is_digit b = nat_le 48 b && nat_le b 57

abbrev pub is_underscore : ℕ → Bool
is_underscore b = nat_eq b 95

abbrev pub is_dollar : ℕ → Bool
is_dollar b = nat_eq b 36

-- a letter or `_`
abbrev pub begins_name : ℕ → Bool
begins_name b = is_letter b || is_underscore b

-- a letter, a digit, `_` or `$`
abbrev pub continues_name : ℕ → Bool
continues_name b = begins_name b || is_digit b || is_dollar b

-- whether the next byte passes the test
abbrev pub next_is : (ℕ → Bool) → List ℕ → Bool
next_is test [] = false
next_is test (b ∷ bs) = test b

-- whether the bytes begin with the text
abbrev pub begin_with : List ℕ → List ℕ → Bool
begin_with text bytes = starts_with nat_eq bytes text

-- what a table has for the text
abbrev pub entry : {A : Type 0} → List (List ℕ × A) → List ℕ → Option A
entry table text = option_map (λ row. row.1) (find (λ row. bytes_eq text row.0) table)
