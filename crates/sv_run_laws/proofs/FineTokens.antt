-- The numbers among the tokens of a text have 1 to 64 bits, and fit them.
use Rattle.std.proofs.Common.{◌≡◌, ℕ, ◌-◌, ◌^◌, ◌<◌, ◌≤◌, Bool, true, false, List, [], ◌∷◌, ◌++◌}
use Rattle.std.proofs.Common.{drop, length, Option, Some, None, refl, subst, arith}
use Rattle.std.specs.Prelude.{not, ◌||◌, codes, if◌then◌else◌, take_while, nat_le}
use Rattle.std.specs.List.{list_any}
use Rattle.std.specs.Option.{option_map_or}
use Rattle.std.specs.Str.{bytes_eq}
use Rattle.std.proofs.lemmas.Bool.{and_parts, leb-true, leb-false}
use Rattle.sv_num.specs.declared.faults.Place.{Place}
use Rattle.sv_token.specs.declared.keywords.WordKind.{WordKind}
use Rattle.sv_token.specs.Bytes.{begin_with, is_blank, is_digit, is_underscore, begins_name}
use Rattle.sv_token.specs.Bytes.{continues_name, entry, next_is}
use Rattle.sv_token.specs.Fronts.{Front, gap, token, broken, unsupported, bad_byte, bad_number}
use Rattle.sv_token.specs.Fronts.{open_comment}
use Rattle.sv_token.specs.Gaps.{rest_of_line, block_comment_at, directive_at, close_length}
use Rattle.sv_token.specs.Gaps.{skipped_directives}
use Rattle.sv_token.specs.Lexemes.{Lexeme, word, identifier, numeral, sign, Literal, Placed}
use Rattle.sv_token.specs.Numerals.{number_at, unsized_number_at, based_at, decimal_at, head_at}
use Rattle.sv_token.specs.Numerals.{quoted_head_at, Head, continues_decimal, continues_digits}
use Rattle.sv_token.specs.Numerals.{value_in, are_digits_in, value_bound, based_literal}
use Rattle.sv_token.specs.Numerals.{plain_literal, is_size, is_four_state, begins_fraction}
use Rattle.sv_token.specs.Numerals.{spoils_decimal}
use Rattle.sv_token.specs.Signs.{sign_at, sign_text, sign_of, left_out_signs}
use Rattle.sv_token.specs.Tokens.{front_at, HasTokensUpTo, stopped, past_gap, past_token}
use Rattle.sv_token.specs.Tokens.{AreTokensOf}
use Rattle.sv_token.specs.Words.{name_at, system_name_at, word_of}
use Rattle.sv_flat.proofs.ReplacedBits.{low_below}

abbrev pub IsFineNumber : Literal → Type 0
IsFineNumber l = (1 ≤ l.width) × (l.width ≤ 64) × (l.value < 2 ^ l.width)

-- a number is a fine one
abbrev pub IsFine : Lexeme → Type 0
IsFine (numeral l) = IsFineNumber l
IsFine (word w) = Unit {0}
IsFine (identifier x) = Unit {0}
IsFine (sign s) = Unit {0}

abbrev pub AreFine : List Placed → Type 0
AreFine [] = Unit {0}
AreFine (t ∷ ts) = IsFine t.lexeme × AreFine ts

-- ---- what stands at the front

abbrev IsFineFront : Front → Type 0
IsFineFront (gap n) = Unit {0}
IsFineFront (token x n) = IsFine x
IsFineFront (broken number names) = Unit {0}

by_test : (t : Bool) (f g : Front) → (t ≡ true → IsFineFront f) → (t ≡ false → IsFineFront g)
    → IsFineFront (if t then f else g)
by_test true f g yes' no' = yes' refl
by_test false f g yes' no' = no' refl

by_option : {A : Type 0} (o : Option A) (f : A → Front) (d : Front)
    → ((x : A) → IsFineFront (f x)) → IsFineFront d
    → IsFineFront (option_map_or f o d)
by_option None f d some none = none
by_option (Some x) f d some none = some x

first_fails : (a b : Bool) → (a || b) ≡ false → a ≡ false
first_fails true b h = absurd (cc h)
first_fails false b h = refl

second_fails : (a b : Bool) → (a || b) ≡ false → b ≡ false
second_fails true b h = absurd (cc h)
second_fails false b h = h

holds : (b : Bool) → not b ≡ false → b ≡ true
holds true h = refl
holds false h = absurd (cc h)

-- bits over the length of a based literal are lost
fine_based : (size : Option ℕ) (signed : Bool) (value : ℕ) → is_size size ≡ true →
    IsFineNumber (based_literal size signed value)
fine_based None signed value h = (omega arith, omega arith, low_below value 32)
fine_based (Some n) signed value h =
    let parts = and_parts (nat_le 1 n) (nat_le n 64) h in
    (leb-true 1 n parts.0, leb-true n 64 parts.1, low_below value n)

based_fine : (bs : List ℕ) (size : Option ℕ) (head : Head) → IsFineFront (based_at bs size head)
based_fine bs size head =
    let digits = take_while continues_digits head.behind in
    let value = value_in head.base digits in
    let odd = not (is_size size) || next_is is_underscore digits in
    by_test odd bad_number _ (λ yes'. tt) (λ no'.
    by_test (list_any is_four_state digits) (unsupported (codes "four-state")) _ (λ four. tt)
    (λ two.
    by_test (not (are_digits_in head.base digits) || nat_le (value_bound size) value) bad_number _
    (λ bad. tt)
    (λ good. fine_based size head.signed value
    (holds (is_size size) (first_fails (not (is_size size)) (next_is is_underscore digits) no')))))

fine_decimal : (value : ℕ) (odd : Bool) → (odd || nat_le (2 ^ 32) value) ≡ false →
    IsFineNumber (plain_literal value)
fine_decimal value odd h = (
  omega arith,
  omega arith,
  leb-false (2 ^ 32) value (second_fails odd (nat_le (2 ^ 32) value) h),
)

decimal_fine : (b : ℕ) (more rest : List ℕ) → IsFineFront (decimal_at b more rest)
decimal_fine b more rest =
    let value = value_in 10 (b ∷ more) in
    let odd = next_is spoils_decimal rest in
    by_test (begins_fraction rest) (unsupported (codes "real")) _ (λ real. tt) (λ whole.
    by_test (odd || nat_le (2 ^ 32) value) bad_number _ (λ bad. tt) (λ good.
    fine_decimal value odd good))

number_fine : (b : ℕ) (bs : List ℕ) → IsFineFront (number_at b bs)
unfolding number_at
number_fine b bs =
    let more = take_while continues_decimal bs in
    let rest = drop (length more) bs in
    by_option (quoted_head_at rest) (based_at bs (Some (value_in 10 (b ∷ more)))) _
    (λ head. based_fine bs (Some (value_in 10 (b ∷ more))) head)
    (decimal_fine b more rest)

unsized_fine : (bs : List ℕ) → IsFineFront (unsized_number_at bs)
unfolding unsized_number_at
unsized_fine bs =
    by_option (head_at bs) (based_at bs None) bad_byte (λ head. based_fine bs None head) tt

block_fine : (bs : List ℕ) → IsFineFront (block_comment_at bs)
unfolding block_comment_at
block_fine bs = by_option (close_length (drop 1 bs)) _ open_comment (λ n. tt) tt

directive_fine : (bs : List ℕ) → IsFineFront (directive_at bs)
unfolding directive_at
directive_fine bs =
    by_test (list_any (bytes_eq (take_while continues_name bs)) skipped_directives)
    (gap (rest_of_line bs)) _ (λ yes'. tt) (λ no'.
    by_test (next_is begins_name bs) (unsupported (codes "directive")) bad_byte (λ named. tt)
    (λ none. tt))

system_fine : (bs : List ℕ) → IsFineFront (system_name_at bs)
unfolding system_name_at
system_fine bs =
    let name = take_while continues_name bs in
    by_option (word_of (codes "$" ++ name)) (λ w. token (word w) (length name)) _ (λ w. tt)
    (by_test (next_is begins_name name) (unsupported (codes "system-name")) bad_byte (λ named. tt)
    (λ none. tt))

word_fine : (o : Option WordKind) (x : List ℕ) → IsFine (option_map_or word o (identifier x))
word_fine None x = tt
word_fine (Some w) x = tt

name_fine : (b : ℕ) (bs : List ℕ) → IsFineFront (name_at b bs)
unfolding name_at
name_fine b bs =
    let more = take_while continues_name bs in word_fine (word_of (b ∷ more)) (b ∷ more)

sign_fine : (bytes : List ℕ) → IsFineFront (sign_at bytes)
unfolding sign_at
sign_fine bytes =
    let text = sign_text bytes in
    by_option (entry left_out_signs text) unsupported _ (λ form. tt)
    (by_option (sign_of text) (λ s. token (sign s) (length text - 1)) bad_byte (λ s. tt) tt)

front_fine : (b : ℕ) (bs : List ℕ) → IsFineFront (front_at b bs)
unfolding front_at
front_fine b bs =
    let bytes = b ∷ bs in
    by_test (is_blank b) (gap 0) _ (λ y. tt) (λ n.
    by_test (begin_with (codes "//") bytes) (gap (rest_of_line bs)) _ (λ y. tt) (λ n.
    by_test (begin_with (codes "/*") bytes) (block_comment_at bs) _ (λ y. block_fine bs) (λ n.
    by_test (begin_with (codes "`") bytes) (directive_at bs) _ (λ y. directive_fine bs) (λ n.
    by_test (begin_with (codes "\\") bytes) (unsupported (codes "escaped-name")) _ (λ y. tt) (λ n.
    by_test (begin_with (codes "\"") bytes) (unsupported (codes "string")) _ (λ y. tt) (λ n.
    by_test (begin_with (codes "$") bytes) (system_name_at bs) _ (λ y. system_fine bs) (λ n.
    by_test (begin_with (codes "'") bytes) (unsized_number_at bs) _ (λ y. unsized_fine bs) (λ n.
    by_test (is_digit b) (number_at b bs) _ (λ y. number_fine b bs) (λ n.
    by_test (begins_name b) (name_at b bs) (sign_at bytes) (λ y. name_fine b bs) (λ n.
    sign_fine bytes))))))))))

-- ---- all tokens

up_to_fine : {stop : Place} {rest : List ℕ} {place : Place} {bytes : List ℕ} {ts : List Placed}
    → HasTokensUpTo stop rest place bytes ts
    → AreFine ts
up_to_fine stopped = tt
up_to_fine (past_gap front more) = up_to_fine more
up_to_fine (past_token {b = b} {bs = bs} front more) =
    (subst IsFineFront front (front_fine b bs), up_to_fine more)

pub tokens_fine : (bytes : List ℕ) (ts : List Placed) → AreTokensOf bytes ts → AreFine ts
tokens_fine bytes ts are = up_to_fine are.1
