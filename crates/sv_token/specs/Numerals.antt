-- Numbers (IEEE 1364-2005, clause 3.5). A plain decimal is signed. A based literal has the length
-- that it says, and is signed where it says so. This project's profile: numbers without a length
-- have 32 bits and are below 2^32, lengths are 1 to 64, values below 2^128, and no blanks stand
-- within a number.
use Rattle.std.specs.Prelude.{ℕ, ◌+◌, ◌-◌, ◌*◌, ◌%◌, ◌^◌, Bool, true, false, not, ◌&&◌, ◌||◌}
use Rattle.std.specs.Prelude.{nat_eq, nat_le, nat_lt, if◌then◌else◌, List, [], ◌∷◌, length, drop}
use Rattle.std.specs.Prelude.{filter, find, fold, take_while, Option, Some, None, option_map}
use Rattle.std.specs.Prelude.{is_some, unwrap_or, codes}
use Rattle.std.specs.List.{list_any, list_all}
use Rattle.std.specs.Option.{option_map_or}
use Rattle.sv_token.specs.Bytes.{is_letter, is_upper_case, is_lower_case, is_digit, is_underscore}
use Rattle.sv_token.specs.Bytes.{is_dollar, next_is}
use Rattle.sv_token.specs.Fronts.{Front, token, bad_byte, bad_number, unsupported}
use Rattle.sv_token.specs.Lexemes.{Literal, numeral}

-- Digits.

-- what a digit stands for, letters for 10 and more; other bytes are over every base
abbrev pub digit_value : ℕ → ℕ
digit_value b =
    if is_digit b then b - 48
    else (if is_lower_case b then b - 87
    else (if is_upper_case b then b - 55
    else 36))

-- without `_`, which only parts the digits
abbrev pub without_underscores : List ℕ → List ℕ
without_underscores digits = filter (λ b. not (is_underscore b)) digits

-- the number that digits spell in a base, the highest first
abbrev pub value_in : ℕ → List ℕ → ℕ
value_in base digits =
    fold (λ value digit. value * base + digit_value digit) 0 (without_underscores digits)

-- whether there are digits, and all are digits of the base
abbrev pub are_digits_in : ℕ → List ℕ → Bool
are_digits_in base digits =
    nat_lt 0 (length digits) && list_all (λ digit.
    nat_lt (digit_value digit) base) (without_underscores digits)

-- Plain decimals.

-- a digit or `_`
abbrev pub continues_decimal : ℕ → Bool
continues_decimal b = is_digit b || is_underscore b

-- `.` and a digit
abbrev pub begins_fraction : List ℕ → Bool
begins_fraction [] = false
begins_fraction (b ∷ bs) = nat_eq b 46 && next_is is_digit bs

-- a letter or `$`
abbrev pub spoils_decimal : ℕ → Bool
spoils_decimal b = is_letter b || is_dollar b

abbrev pub plain_literal : ℕ → Literal
plain_literal value = record { width = 32; signed = true; value = value; sized = false }

-- a plain decimal by its first digit, the other digits, and what stands behind them
abbrev pub decimal_at : ℕ → List ℕ → List ℕ → Front
decimal_at digit others rest =
    let value = value_in 10 (digit ∷ others) in
    if begins_fraction rest then unsupported (codes "real")
    else (if next_is spoils_decimal rest || nat_le (2 ^ 32) value then bad_number
    else token (numeral (plain_literal value)) (length others))

-- Based literals.

-- the bases, each with its letters
abbrev pub base_table : List (List ℕ × ℕ)
base_table = (codes "bB", 2) ∷ (codes "oO", 8) ∷ (codes "dD", 10) ∷ (codes "hH", 16) ∷ []

-- the base that a letter stands for
abbrev pub base_of : ℕ → Option ℕ
base_of letter = option_map (λ row. row.1) (find (λ row. list_any (nat_eq letter) row.0) base_table)

-- `s` or `S`
abbrev pub says_signed : ℕ → Bool
says_signed b = nat_eq b 115 || nat_eq b 83

-- the head of a based literal: its signedness and its base, and the bytes behind them
pub record Head : Type 0 where
  pub signed : Bool
  pub base : ℕ
  pub behind : List ℕ

-- a letter of a base
abbrev pub base_at : Bool → List ℕ → Option Head
base_at signed [] = None
base_at signed (b ∷ bs) =
    option_map (λ base. record { signed = signed; base = base; behind = bs }) (base_of b)

-- behind `'`: `s` or none, and a letter of a base
abbrev pub head_at : List ℕ → Option Head
head_at [] = None
head_at (b ∷ bs) = if says_signed b then base_at true bs else base_at false (b ∷ bs)

-- the same from `'` on
abbrev pub quoted_head_at : List ℕ → Option Head
quoted_head_at [] = None
quoted_head_at (b ∷ bs) = if nat_eq b 39 then head_at bs else None

-- `x`, `z` and `?`, which stand for no value of two
abbrev pub is_four_state : ℕ → Bool
is_four_state b = list_any (nat_eq b) (codes "xXzZ?")

-- a letter, a digit, `_` or `?`
abbrev pub continues_digits : ℕ → Bool
continues_digits b = is_letter b || is_digit b || is_underscore b || nat_eq b 63

-- a size that is written is 1 to 64
abbrev pub is_size : Option ℕ → Bool
is_size None = true
is_size (Some n) = nat_le 1 n && nat_le n 64

-- what the value of a literal stays below
abbrev pub value_bound : Option ℕ → ℕ
value_bound None = 2 ^ 32
value_bound (Some size) = 2 ^ 128

-- the literal of a value: bits over its length are lost
abbrev pub based_literal : Option ℕ → Bool → ℕ → Literal
based_literal size signed value =
    let width = unwrap_or size 32 in
    record { width = width; signed = signed; value = value % 2 ^ width; sized = is_some size }

-- a based literal by its size and its head, where the bytes bs stand behind its first byte
abbrev pub based_at : List ℕ → Option ℕ → Head → Front
based_at bs size head =
    let digits = take_while continues_digits head.behind in
    let value = value_in head.base digits in
    let rest = drop (length digits) head.behind in
    if not (is_size size) || next_is is_underscore digits then bad_number
    else (if list_any is_four_state digits then unsupported (codes "four-state")
    else (if not (are_digits_in head.base digits) || nat_le (value_bound size) value then bad_number
    else token (numeral (based_literal size head.signed value)) (length bs - length rest)))

-- Either at the front.

-- from a digit on: a based literal, of which the digits are the size, or else a plain decimal
unfoldable pub number_at : ℕ → List ℕ → Front
number_at b bs =
    let more = take_while continues_decimal bs in
    let rest = drop (length more) bs in
    option_map_or (based_at bs (Some (value_in 10 (b ∷ more)))) (quoted_head_at rest)
    (decimal_at b more rest)

-- behind `'`: a based literal without a size
unfoldable pub unsized_number_at : List ℕ → Front
unsized_number_at bs = option_map_or (based_at bs None) (head_at bs) bad_byte
