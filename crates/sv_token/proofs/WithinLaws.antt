-- What stands at the front ends within the bytes.
use Rattle.std.proofs.Common.{◌≡◌, ℕ, ◌+◌, ◌-◌, ◌^◌, ◌≤◌, Bool, true, false, List, [], ◌∷◌, take}
use Rattle.std.proofs.Common.{drop, length, Option, Some, None, refl, arith, ◌||◌, not}
use Rattle.std.specs.Prelude.{codes, if◌then◌else◌, option_map, take_while, nat_le, nat_eq}
use Rattle.std.proofs.lemmas.Bool.{false≢true, and_parts}
use Rattle.sv_token.specs.declared.signs.SignKind.{SignKind}
use Rattle.std.specs.List.{prefix_len, list_any}
use Rattle.std.specs.Option.{option_map_or}
use Rattle.std.specs.Str.{bytes_eq}
use Rattle.std.proofs.lemmas.List.{length-take}
use Rattle.std.proofs.lemmas.List.Sums.{prefix_len-le-length}
use Rattle.sv_token.specs.Bytes.{begin_with, is_blank, is_digit, is_line_feed, is_underscore}
use Rattle.sv_token.specs.Bytes.{begins_name, continues_name, entry, next_is}
use Rattle.sv_token.specs.Fronts.{Front, gap, token, broken, unsupported, bad_byte, bad_number}
use Rattle.sv_token.specs.Fronts.{open_comment}
use Rattle.sv_token.specs.Gaps.{rest_of_line, block_comment_at, directive_at, close_length}
use Rattle.sv_token.specs.Gaps.{skipped_directives}
use Rattle.sv_token.specs.Lexemes.{numeral, sign}
use Rattle.sv_token.specs.Numerals.{number_at, unsized_number_at, based_at, decimal_at, head_at}
use Rattle.sv_token.specs.Numerals.{quoted_head_at, Head, continues_decimal, continues_digits}
use Rattle.sv_token.specs.Numerals.{value_in, are_digits_in, value_bound, based_literal}
use Rattle.sv_token.specs.Numerals.{plain_literal, is_size, is_four_state, begins_fraction}
use Rattle.sv_token.specs.Numerals.{spoils_decimal}
use Rattle.sv_token.specs.Signs.{sign_at, sign_text, sign_of, left_out_signs, longest}
use Rattle.sv_token.specs.Signs.{sign_spellings}
use Rattle.sv_token.specs.Tokens.{front_at}
use Rattle.sv_token.specs.Words.{name_at, system_name_at, word_of}

-- so many bytes are left behind the first
abbrev pub IsWithin : ℕ → Front → Type 0
IsWithin n (gap m) = m ≤ n
IsWithin n (token lexeme m) = m ≤ n
IsWithin n (broken number names) = Unit {0}

by_test : (n : ℕ) (t : Bool) (f g : Front) → IsWithin n f → IsWithin n g →
    IsWithin n (if t then f else g)
by_test n true f g a b = a
by_test n false f g a b = b

by_option : {A : Type 0} (n : ℕ) (o : Option A) (f : A → Front) (d : Front) →
    ((x : A) → IsWithin n (f x)) → IsWithin n d →
    IsWithin n (option_map_or f o d)
by_option n None f d a b = b
by_option n (Some x) f d a b = a x

part : (m : ℕ) (bs : List ℕ) → length (take m bs) ≤ length bs
part m bs = omega (arith, length-take m bs)

Closes : List ℕ → Option ℕ → Type 0
Closes bs None = Unit {0}
Closes bs (Some n) = n ≤ length bs

close_step : (b : ℕ) (bs : List ℕ) (t : Bool) (o : Option ℕ) →
    begin_with (codes "*/") (b ∷ bs) ≡ t → Closes bs o →
    Closes (b ∷ bs) (if t then Some 2 else option_map (λ n. n + 1) o)
unfolding Closes
close_step b [] true o e h = absurd (false≢true (and_parts (nat_eq 42 b) false e).1)
close_step b (x ∷ bs) true o e h = omega arith
close_step b bs false None e h = tt
close_step b bs false (Some n) e h = omega arith

close_within : (bs : List ℕ) → Closes bs (close_length bs)
unfolding Closes
close_within [] = tt
close_within (b ∷ bs) =
    close_step b bs (begin_with (codes "*/") (b ∷ bs)) (close_length bs) refl (close_within bs)

block_within : (bs : List ℕ) → IsWithin (length bs) (block_comment_at bs)
unfolding block_comment_at Closes
block_within [] = tt
block_within (b ∷ bs) = step (close_length bs) (close_within bs)
  where
    step : (o : Option ℕ) → Closes bs o →
        IsWithin (length (b ∷ bs)) (option_map_or (λ n. gap (n + 1)) o open_comment)
    step None h = tt
    step (Some n) h = omega arith

directive_within : (bs : List ℕ) → IsWithin (length bs) (directive_at bs)
unfolding directive_at
directive_within bs =
    by_test (length bs) (list_any (bytes_eq (take_while continues_name bs)) skipped_directives)
    (gap (rest_of_line bs)) _
    (prefix_len-le-length (λ b. not (is_line_feed b)) bs)
    (by_test (length bs) (next_is begins_name bs) (unsupported (codes "directive")) bad_byte tt tt)

system_within : (bs : List ℕ) → IsWithin (length bs) (system_name_at bs)
unfolding system_name_at
system_within bs =
    by_option (length bs) (word_of (36 ∷ take_while continues_name bs)) _ _ (λ w.
    part (prefix_len continues_name bs) bs)
    (by_test (length bs) (next_is begins_name (take_while continues_name bs))
    (unsupported (codes "system-name")) bad_byte tt tt)

name_within : (b : ℕ) (bs : List ℕ) → IsWithin (length bs) (name_at b bs)
unfolding name_at
name_within b bs = part (prefix_len continues_name bs) bs

based_within : (bs : List ℕ) (size : Option ℕ) (head : Head) →
    IsWithin (length bs) (based_at bs size head)
based_within bs size head =
    let digits : List ℕ = take_while continues_digits head.behind in
    let bad : Bool = not (are_digits_in head.base digits)
    || nat_le (value_bound size) (value_in head.base digits) in
    let last : Front =
    token (numeral (based_literal size head.signed (value_in head.base digits)))
    (length bs - length (drop (length digits) head.behind)) in
    let valued : Front = if bad then bad_number else last in
    let two : Front = if list_any is_four_state digits then unsupported (codes "four-state")
    else valued in
    by_test (length bs) (not (is_size size) || next_is is_underscore digits) bad_number two tt
    (by_test (length bs) (list_any is_four_state digits) (unsupported (codes "four-state"))
    valued tt
    (by_test (length bs) bad bad_number last tt (omega arith)))

decimal_within : (n b : ℕ) (more rest : List ℕ) → length more ≤ n →
    IsWithin n (decimal_at b more rest)
decimal_within n b more rest h =
    let bad : Bool = next_is spoils_decimal rest || nat_le (2 ^ 32) (value_in 10 (b ∷ more)) in
    let last : Front = token (numeral (plain_literal (value_in 10 (b ∷ more)))) (length more) in
    let whole : Front = if bad then bad_number else last in
    by_test n (begins_fraction rest) (unsupported (codes "real")) whole tt
    (by_test n bad bad_number last tt h)

number_within : (b : ℕ) (bs : List ℕ) → IsWithin (length bs) (number_at b bs)
unfolding number_at
number_within b bs =
    let more : List ℕ = take_while continues_decimal bs in
    let rest : List ℕ = drop (length more) bs in
    by_option (length bs) (quoted_head_at rest) (based_at bs (Some (value_in 10 (b ∷ more))))
    (decimal_at b more rest)
    (λ head. based_within bs (Some (value_in 10 (b ∷ more))) head)
    (decimal_within (length bs) b more rest (part (prefix_len continues_decimal bs) bs))

unsized_within : (bs : List ℕ) → IsWithin (length bs) (unsized_number_at bs)
unfolding unsized_number_at
unsized_within bs =
    by_option (length bs) (head_at bs) (based_at bs None) bad_byte (λ head.
    based_within bs None head) tt

text_short : (b : ℕ) (bs : List ℕ) → length (sign_text (b ∷ bs)) - 1 ≤ length bs
unfolding sign_text
text_short b bs =
    let less : (k : ℕ) → length (take k (b ∷ bs)) - 1 ≤ length bs =
    λ k. omega (arith, part k (b ∷ bs)) in
    less (longest sign_spellings (b ∷ bs))

sign_within : (b : ℕ) (bs : List ℕ) → IsWithin (length bs) (sign_at (b ∷ bs))
unfolding sign_at
sign_within b bs =
    let text : List ℕ = sign_text (b ∷ bs) in
    let known : SignKind → Front = λ s. token (sign s) (length text - 1) in
    by_option (length bs) (entry left_out_signs text) unsupported
    (option_map_or known (sign_of text) bad_byte) (λ form. tt)
    (by_option (length bs) (sign_of text) known bad_byte (λ s. text_short b bs) tt)

pub front_within : (b : ℕ) (bs : List ℕ) → IsWithin (length bs) (front_at b bs)
unfolding front_at
front_within b bs =
    by_test (length bs) (is_blank b) (gap 0) _ (omega arith)
    (by_test (length bs) (begin_with (codes "//") (b ∷ bs)) (gap (rest_of_line bs)) _
    (prefix_len-le-length (λ b. not (is_line_feed b)) bs)
    (by_test (length bs) (begin_with (codes "/*") (b ∷ bs)) (block_comment_at bs) _
    (block_within bs)
    (by_test (length bs) (begin_with (codes "`") (b ∷ bs)) (directive_at bs) _ (directive_within bs)
    (by_test (length bs) (begin_with (codes "\\") (b ∷ bs))
    (unsupported (codes "escaped-name")) _ tt
    (by_test (length bs) (begin_with (codes "\"") (b ∷ bs)) (unsupported (codes "string")) _ tt
    (by_test (length bs) (begin_with (codes "$") (b ∷ bs)) (system_name_at bs) _ (system_within bs)
    (by_test (length bs) (begin_with (codes "'") (b ∷ bs)) (unsized_number_at bs) _
    (unsized_within bs)
    (by_test (length bs) (is_digit b) (number_at b bs) _ (number_within b bs)
    (by_test (length bs) (begins_name b) (name_at b bs) (sign_at (b ∷ bs)) (name_within b bs)
    (sign_within b bs))))))))))
