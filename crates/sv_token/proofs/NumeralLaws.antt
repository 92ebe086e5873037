-- Digits one by one.
use Rattle.std.proofs.Common.{◌≡◌, Option, None, Some, ℕ, suc, ◌+◌, ◌-◌, ◌^◌, ◌*◌, ◌<◌, ◌≤◌, Bool}
use Rattle.std.proofs.Common.{true, false, cond, List, [], ◌∷◌, take, drop, length, get_or, refl}
use Rattle.std.proofs.Common.{sym, ap, subst, ◌∙◌, arith, not, ◌||◌, ◌&&◌}
use Rattle.std.specs.List.{fold, list_all, list_any, prefix_len}
use Rattle.std.proofs.lemmas.List.Sums.{fold_more, fold-append, prefix_len-le-length}
use Rattle.std.specs.Prelude.{nat_lt, nat_le, nat_eq, option_map, unwrap_or, if◌then◌else◌, codes}
use Rattle.std.specs.Prelude.{take_while}
use Rattle.std.specs.Option.{option_map_or}
use Rattle.std.proofs.lemmas.List.{take-append-drop, take_all, length-take, length-take-le}
use Rattle.std.proofs.lemmas.List.{length-drop, drop-drop, take_rest}
use Rattle.std.proofs.lemmas.Bool.{cond-true, cond-false, ne_eqb, eq-eqb, lt-ltb, lt-leb, le-leb}
use Rattle.std.proofs.lemmas.Bool.{and_from}
use Rattle.std.proofs.lemmas.List.Folds.{length-prefix_len}
use Rattle.sv_token.specs.Bytes.{is_underscore, next_is}
use Rattle.sv_token.specs.Fronts.{Front, token, bad_byte, bad_number, unsupported}
use Rattle.sv_token.specs.Lexemes.{numeral}
use Rattle.sv_token.specs.Numerals.{digit_value, without_underscores, value_in, are_digits_in}
use Rattle.sv_token.specs.Numerals.{head_at, quoted_head_at, Head, begins_fraction, spoils_decimal}
use Rattle.sv_token.specs.Numerals.{plain_literal, decimal_at, is_four_state, is_size, value_bound}
use Rattle.sv_token.specs.Numerals.{based_literal, based_at, continues_digits, continues_decimal}
use Rattle.sv_token.specs.Numerals.{number_at, unsized_number_at}
use Rattle.sv_token.specs.Views.{head_behind, literal_value}
use Rattle.sv_token.specs.declared.numerals.Head.{Head as CodeHead}

-- the value behind one more byte, of which `_` only parts the digits
abbrev pub value_behind : ℕ → ℕ → ℕ → ℕ
value_behind base value b = cond (is_underscore b) value (value * base + digit_value b)

by_bytes : (base value : ℕ) (digits : List ℕ) →
    fold (λ v d. v * base + digit_value d) value (without_underscores digits) ≡
    fold (value_behind base) value digits
by_bytes base value [] = refl
by_bytes base value (b ∷ bs) = step (is_underscore b) (λ v. by_bytes base v bs)
  where
    step : (u : Bool) →
        ((v : ℕ) → fold (λ v d. v * base + digit_value d) v (without_underscores bs) ≡
        fold (value_behind base) v bs) →
        fold (λ v d. v * base + digit_value d) value
        (cond (not u) (b ∷ without_underscores bs) (without_underscores bs)) ≡
        fold (value_behind base) (cond u value (value * base + digit_value b)) bs
    step true others = others value
    step false others = others (value * base + digit_value b)

-- the value of digits, byte by byte
pub value_in-bytes : (base : ℕ) (digits : List ℕ) →
    value_in base digits ≡ fold (value_behind base) 0 digits
value_in-bytes base digits = by_bytes base 0 digits

-- one more byte
pub value_more : (base : ℕ) (digits : List ℕ) (i : ℕ) → i < length digits →
    fold (value_behind base) 0 (take (i + 1) digits) ≡
    value_behind base (fold (value_behind base) 0 (take i digits)) (get_or digits i 0)
value_more base digits i h = fold_more (value_behind base) 0 digits i 0 h

times-le : (v base d : ℕ) → 1 ≤ base → v ≤ v * base + d
times-le v base d h = grind arith

-- further bytes make no value smaller
fold-le : (base value : ℕ) (bs : List ℕ) → 1 ≤ base → value ≤ fold (value_behind base) value bs
fold-le base value [] h = omega arith
fold-le base value (b ∷ bs) h = step (is_underscore b) (λ v. fold-le base v bs h)
  where
    step : (u : Bool) → ((v : ℕ) → v ≤ fold (value_behind base) v bs) →
        value ≤ fold (value_behind base) (cond u value (value * base + digit_value b)) bs
    step true others = others value
    step false others =
        omega (arith, others (value * base + digit_value b), times-le value base (digit_value b) h)

pub value_grows : (base : ℕ) (digits : List ℕ) (i : ℕ) → 1 ≤ base →
    fold (value_behind base) 0 (take i digits) ≤ value_in base digits
value_grows base digits i h =
    let P : ℕ → Type 0 = λ n. fold (value_behind base) 0 (take i digits) ≤ n in
    subst P (sym (fold-append (value_behind base) 0 (take i digits) (drop i digits))
    ∙ ap (fold (value_behind base) 0) (take-append-drop i digits)
    ∙ sym (value_in-bytes base digits))
    (fold-le base (fold (value_behind base) 0 (take i digits)) (drop i digits) h)

-- a test of each digit passes over `_`
pub all_digits : (test : ℕ → Bool) (digits : List ℕ) →
    list_all test (without_underscores digits) ≡ list_all (λ b. is_underscore b || test b) digits
all_digits test [] = refl
all_digits test (b ∷ bs) = step (is_underscore b) (all_digits test bs)
  where
    step : (u : Bool) → list_all test (without_underscores bs) ≡ list_all (λ b.
        is_underscore b || test b) bs →
        list_all test (cond (not u) (b ∷ without_underscores bs) (without_underscores bs)) ≡
        ((u || test b) && list_all (λ b. is_underscore b || test b) bs)
    step true others = others
    step false others = ap (λ r. test b && r) others

-- a digit that is read makes the value no larger than that of all digits
pub not_above : (base : ℕ) (digits : List ℕ) (i : ℕ) → 1 ≤ base → i < length digits →
    (get_or digits i 0 ≡ 95 → ⊥) →
    fold (value_behind base) 0 (take i digits) * base + digit_value (get_or digits i 0)
    ≤ value_in base digits
not_above base digits i some h other =
    let P : ℕ → Type 0 = λ n. n ≤ value_in base digits in
    subst P (value_more base digits i h
    ∙ cond-false (is_underscore (get_or digits i 0)) _ _ (ne_eqb _ _ other))
    (value_grows base digits (i + 1) some)

-- the value of all bytes that were read
pub value_whole : (base : ℕ) (digits : List ℕ) (i : ℕ) → length digits ≤ i →
    fold (value_behind base) 0 (take i digits) ≡ value_in base digits
value_whole base digits i h =
    ap (fold (value_behind base) 0) (take_all i digits h) ∙ sym (value_in-bytes base digits)

-- the test of the code is that of the definition
pub are_digits : (base : ℕ) (digits : List ℕ) (t : Bool) → 0 < length digits →
    t ≡ list_all (λ b. is_underscore b || nat_lt (digit_value b) base) digits →
    t ≡ are_digits_in base digits
are_digits base digits t some is =
    is ∙ sym (all_digits (λ d. nat_lt (digit_value d) base) digits)
    ∙ ap (λ u. u && list_all (λ d. nat_lt (digit_value d) base) (without_underscores digits))
    (sym (lt-ltb 0 (length digits) some))

pub no_digits : (base : ℕ) (digits : List ℕ) → length digits ≡ 0 → are_digits_in base digits ≡ false
no_digits base [] h = refl
no_digits base (b ∷ bs) h = absurd (omega arith)

-- a head behind `'`
pub quoted : (bytes : List ℕ) (o : Option CodeHead) → 1 ≤ length bytes → get_or bytes 0 0 ≡ 39 →
    option_map (head_behind (drop 1 bytes) 0) o ≡ head_at (drop 1 bytes) →
    option_map (head_behind bytes 1) o ≡ quoted_head_at bytes
quoted [] o some is h = absurd (omega arith)
quoted (b ∷ bs) o some is h = h ∙ sym (cond-true (nat_eq b 39) (head_at bs) None (eq-eqb b 39 is))

-- Numbers by what the code finds of them.

first_bytes : (bytes : List ℕ) (n : ℕ) → 1 ≤ n → n ≤ length bytes →
    get_or bytes 0 0 ∷ take (n - 1) (drop 1 bytes) ≡ take n bytes
first_bytes [] n some within = absurd (omega arith)
first_bytes (b ∷ bs) n some within =
    let same : suc (n - 1) ≡ n = omega arith in
    ap (λ k. take k (b ∷ bs)) same

-- a plain decimal by its value
abbrev pub decimal_front : ℕ → ℕ → List ℕ → Front
decimal_front value more rest =
    if begins_fraction rest then unsupported (codes "real")
    else (if next_is spoils_decimal rest || nat_le (2 ^ 32) value then bad_number
    else token (numeral (plain_literal value)) more)

pub decimal_is : (bytes : List ℕ) (n : ℕ) → 1 ≤ n → n ≤ length bytes →
    decimal_at (get_or bytes 0 0) (take (n - 1) (drop 1 bytes)) (drop n bytes) ≡
    decimal_front (value_in 10 (take n bytes)) (n - 1) (drop n bytes)
decimal_is bytes n some within =
    let count : length (take (n - 1) (drop 1 bytes)) ≡ n - 1 =
    length-take-le (n - 1) (drop 1 bytes) (simp length-drop (omega arith)) in
    ap (λ (ds : List ℕ).
    decimal_front (value_in 10 ds) (length (take (n - 1) (drop 1 bytes))) (drop n bytes))
    (first_bytes bytes n some within)
    ∙ ap (λ (m : ℕ). decimal_front (value_in 10 (take n bytes)) m (drop n bytes)) count

pub decimal_plain : (value more : ℕ) (rest : List ℕ) → begins_fraction rest ≡ false →
    next_is spoils_decimal rest ≡ false →
    value < 2 ^ 32 → decimal_front value more rest ≡ token (numeral (plain_literal value)) more
decimal_plain value more rest whole clean small =
    let test : nat_le (2 ^ 32) value ≡ false = lt-leb (2 ^ 32) value small in
    rw (whole, clean, test) refl

pub decimal_spoiled : (value more : ℕ) (rest : List ℕ) → begins_fraction rest ≡ false →
    next_is spoils_decimal rest ≡ true →
    decimal_front value more rest ≡ bad_number
decimal_spoiled value more rest whole spoiled = rw (whole, spoiled) refl

decimal_large : (value more : ℕ) (rest : List ℕ) → begins_fraction rest ≡ false →
    2 ^ 32 ≤ value →
    decimal_front value more rest ≡ bad_number
decimal_large value more rest whole large =
    let test : nat_le (2 ^ 32) value ≡ true = le-leb (2 ^ 32) value large in
    rw (whole, test) (step (next_is spoils_decimal rest))
  where
    step : (t : Bool) → (if t || true then bad_number
        else token (numeral (plain_literal value)) more) ≡ bad_number
    step true = refl
    step false = refl

-- a plain decimal of the code that is no fraction and too large
pub too_large : (bytes : List ℕ) (n : ℕ) (t : Bool) → 1 ≤ n → n ≤ length bytes →
    t ≡ begins_fraction (take (length bytes - n) (drop n bytes)) → t ≡ false →
    2 ^ 32 ≤ value_in 10 (take n bytes) →
    decimal_at (get_or bytes 0 0) (take (n - 1) (drop 1 bytes)) (drop n bytes) ≡ bad_number
too_large bytes n t some within is whole large =
    decimal_is bytes n some within
    ∙ decimal_large (value_in 10 (take n bytes)) (n - 1) (drop n bytes)
    (ap begins_fraction (sym (take_rest bytes n)) ∙ sym is ∙ whole) large

-- the value of a literal that has none
pub no_value : (size : Option ℕ) (base : ℕ) (digits : List ℕ) → are_digits_in base digits ≡ false →
    literal_value size base digits ≡ None
no_value size base digits none = rw none refl

pub large_value : (size : Option ℕ) (base : ℕ) (digits : List ℕ) →
    value_bound size ≤ value_in base digits →
    literal_value size base digits ≡ None
large_value size base digits large =
    let test : nat_le (value_bound size) (value_in base digits) ≡ true =
    le-leb (value_bound size) (value_in base digits) large in
    rw test (step (not (are_digits_in base digits)))
  where
    step : (t : Bool) → (if t || true then None else Some (value_in base digits)) ≡ None
    step true = refl
    step false = refl

pub bound-le : (size : Option ℕ) → value_bound size ≤ 2 ^ 128
bound-le None = omega arith
bound-le (Some n) = omega arith

pub known_value : (size : Option ℕ) (base : ℕ) (digits : List ℕ) →
    are_digits_in base digits ≡ true →
    value_in base digits < value_bound size →
    literal_value size base digits ≡ Some (value_in base digits)
known_value size base digits all small =
    let test : nat_le (value_bound size) (value_in base digits) ≡ false =
    lt-leb (value_bound size) (value_in base digits) small in
    rw (all, test) refl

-- a based literal by its digits
abbrev pub based_front : Option ℕ → Bool → ℕ → List ℕ → ℕ → Front
based_front size signed base digits more =
    if next_is is_underscore digits then bad_number
    else (if list_any is_four_state digits then unsupported (codes "four-state")
    else option_map_or (λ v.
    token (numeral (based_literal size signed v)) more) (literal_value size base digits)
    bad_number)

sized : (size : Option ℕ) → 1 ≤ unwrap_or size 32 → unwrap_or size 32 ≤ 64 → is_size size ≡ true
sized None some few = refl
sized (Some n) some few = and_from (nat_le 1 n) (nat_le n 64) (le-leb 1 n some) (le-leb n 64 few)

valued : (size : Option ℕ) (signed : Bool) (base : ℕ) (digits : List ℕ) (more : ℕ) →
    (if not (are_digits_in base digits) || nat_le (value_bound size) (value_in base digits)
    then bad_number
    else token (numeral (based_literal size signed (value_in base digits))) more) ≡
    option_map_or (λ v. token (numeral (based_literal size signed v)) more)
    (literal_value size base digits) bad_number
valued size signed base digits more =
    step (not (are_digits_in base digits) || nat_le (value_bound size) (value_in base digits))
  where
    step : (t : Bool) →
        (if t then bad_number
        else token (numeral (based_literal size signed (value_in base digits))) more) ≡
        option_map_or (λ v. token (numeral (based_literal size signed v)) more) (if t then None
        else Some (value_in base digits)) bad_number
    step true = refl
    step false = refl

based_is : (bytes : List ℕ) (start : ℕ) (size : Option ℕ) (head : Head) (digits : List ℕ) →
    1 ≤ unwrap_or size 32 → unwrap_or size 32 ≤ 64 → 1 ≤ start → start ≤ length bytes →
    head.behind ≡ drop start bytes →
    digits ≡ take_while continues_digits (drop start bytes) →
    based_at (drop 1 bytes) size head ≡
    based_front size head.signed head.base digits (start + length digits - 1)
based_is bytes start size head digits some few one within behind is =
    let here : take_while continues_digits head.behind ≡ digits =
    ap (take_while continues_digits) behind ∙ sym is in
    let test : is_size size ≡ true = sized size some few in
    let short : length digits ≤ length (drop start bytes) =
    rw is (simp (length-take)
    (omega (arith, prefix_len-le-length continues_digits (drop start bytes)))) in
    let count : length (drop 1 bytes) - length (drop (length digits) (drop start bytes)) ≡
    start + length digits - 1 =
    simp length-drop (omega (arith, simp length-drop at short)) in
    rw (here, behind, test, count) (ap (λ f. if next_is is_underscore digits then bad_number
    else (if list_any is_four_state digits then unsupported (codes "four-state")
    else f)) (valued size head.signed head.base digits (start + length digits - 1)))

pub bad_size : (bs : List ℕ) (size : Option ℕ) (head : Head) → is_size size ≡ false →
    based_at bs size head ≡ bad_number
bad_size bs size head is = rw is refl

-- a head seen from the bytes before it
pub head_moved : (bytes : List ℕ) (n : ℕ) (head : CodeHead) →
    head_behind (drop n bytes) 1 head ≡ head_behind bytes (n + 1) head
head_moved bytes n head =
    let behind : drop 1 (drop n bytes) ≡ drop (n + 1) bytes = drop-drop 1 n bytes in
    rw behind refl

-- a number by its first digits
abbrev pub IsNumberBy : ℕ → List ℕ → ℕ → ℕ → Type 0
IsNumberBy b bs n m =
    number_at b bs ≡
    option_map_or (based_at bs (Some (value_in 10 (take n (b ∷ bs)))))
    (quoted_head_at (drop n (b ∷ bs)))
    (decimal_at b (take m bs) (drop n (b ∷ bs)))

number_by : (b : ℕ) (bs : List ℕ) →
    IsNumberBy b bs (suc (prefix_len continues_decimal bs)) (prefix_len continues_decimal bs)
unfolding number_at
number_by b bs =
    let more : List ℕ = take_while continues_decimal bs in
    ap (λ (k : ℕ). option_map_or (based_at bs (Some (value_in 10 (b ∷ more))))
    (quoted_head_at (drop k bs)) (decimal_at b more (drop k bs)))
    (length-prefix_len continues_decimal bs)

pub number_is : (bytes : List ℕ) (n : ℕ) → 0 < length bytes →
    n ≡ 1 + prefix_len continues_decimal (drop 1 bytes) →
    number_at (get_or bytes 0 0) (drop 1 bytes) ≡
    option_map_or (based_at (drop 1 bytes) (Some (value_in 10 (take n bytes))))
    (quoted_head_at (drop n bytes))
    (decimal_at (get_or bytes 0 0) (take (n - 1) (drop 1 bytes)) (drop n bytes))
number_is [] n some is = absurd (omega arith)
number_is (b ∷ bs) n some is =
    let next : suc (prefix_len continues_decimal bs) ≡ n = omega arith in
    let less : prefix_len continues_decimal bs ≡ n - 1 = omega arith in
    subst (λ (m : ℕ). IsNumberBy b bs n m) less
    (subst (λ (k : ℕ). IsNumberBy b bs k (prefix_len continues_decimal bs)) next
    (number_by b bs))

pub unsized_is : (bytes : List ℕ) (o : Option Head) → o ≡ head_at (drop 1 bytes) →
    unsized_number_at (drop 1 bytes) ≡ option_map_or (based_at (drop 1 bytes) None) o bad_byte
unfolding unsized_number_at
unsized_is bytes o is =
    ap (λ (p : Option Head). option_map_or (based_at (drop 1 bytes) None) p bad_byte) (sym is)

pub number_none : (bytes : List ℕ) (n : ℕ) → 0 < length bytes →
    n ≡ 1 + prefix_len continues_decimal (drop 1 bytes) →
    None ≡ quoted_head_at (drop n bytes) →
    number_at (get_or bytes 0 0) (drop 1 bytes) ≡
    decimal_at (get_or bytes 0 0) (take (n - 1) (drop 1 bytes)) (drop n bytes)
number_none bytes n some is none =
    number_is bytes n some is
    ∙ ap (λ (o : Option Head).
    option_map_or (based_at (drop 1 bytes) (Some (value_in 10 (take n bytes)))) o
    (decimal_at (get_or bytes 0 0) (take (n - 1) (drop 1 bytes)) (drop n bytes))) (sym none)

number_some : (bytes : List ℕ) (n : ℕ) (head : CodeHead) → 0 < length bytes →
    n ≡ 1 + prefix_len continues_decimal (drop 1 bytes) →
    Some (head_behind (drop n bytes) 1 head) ≡ quoted_head_at (drop n bytes) →
    number_at (get_or bytes 0 0) (drop 1 bytes) ≡
    based_at (drop 1 bytes) (Some (value_in 10 (take n bytes))) (head_behind bytes (n + 1) head)
number_some bytes n head some is found =
    number_is bytes n some is
    ∙ ap (λ (o : Option Head).
    option_map_or (based_at (drop 1 bytes) (Some (value_in 10 (take n bytes)))) o
    (decimal_at (get_or bytes 0 0) (take (n - 1) (drop 1 bytes)) (drop n bytes))) (sym found)
    ∙ ap (based_at (drop 1 bytes) (Some (value_in 10 (take n bytes)))) (head_moved bytes n head)

-- as the code finds its length and the head
pub number_sized : (bytes : List ℕ) (n : ℕ) (head : CodeHead) → 0 < length bytes →
    n ≡ prefix_len continues_decimal (take (length bytes - 1) (drop 1 bytes)) →
    Some (head_behind (take (length bytes - (1 + n)) (drop (1 + n) bytes)) 1 head) ≡
    quoted_head_at (take (length bytes - (1 + n)) (drop (1 + n) bytes)) →
    number_at (get_or bytes 0 0) (drop 1 bytes) ≡
    based_at (drop 1 bytes) (Some (value_in 10 (take (1 + n) bytes)))
    (head_behind bytes ((1 + n) + 1) head)
number_sized bytes n head some is found =
    number_some bytes (1 + n) head some
    (ap (λ (k : ℕ). 1 + k) (is ∙ ap (prefix_len continues_decimal) (take_rest bytes 1)))
    (subst (λ (bs : List ℕ). Some (head_behind bs 1 head) ≡ quoted_head_at bs)
    (take_rest bytes (1 + n)) found)

-- the digits that the code takes are those of the definition
digits_are : (rest others : List ℕ) (n : ℕ) → rest ≡ others →
    n ≡ prefix_len continues_digits rest →
    take n rest ≡ take_while continues_digits others
digits_are rest others n same is =
    ap (λ (k : ℕ). take k rest) is ∙ ap (λ (bs : List ℕ).
    take (prefix_len continues_digits bs) bs) same

based_four : (size : Option ℕ) (signed : Bool) (base : ℕ) (digits : List ℕ) (more : ℕ) →
    next_is is_underscore digits ≡ false → list_any is_four_state digits ≡ true →
    based_front size signed base digits more ≡ unsupported (codes "four-state")
based_four size signed base digits more clean four = rw (clean, four) refl

based_known : (size : Option ℕ) (signed : Bool) (base : ℕ) (digits : List ℕ) (more : ℕ)
    (o : Option ℕ) →
    next_is is_underscore digits ≡ false → list_any is_four_state digits ≡ false →
    o ≡ literal_value size base digits →
    based_front size signed base digits more ≡
    option_map_or (λ v. token (numeral (based_literal size signed v)) more) o bad_number
based_known size signed base digits more o clean two is =
    rw (clean, two) (ap (λ (p : Option ℕ).
    option_map_or (λ v. token (numeral (based_literal size signed v)) more) p bad_number)
    (sym is))

-- the bytes behind the head of a literal by the place of its `'`, as the code cuts them out
abbrev pub rest_of : List ℕ → (quote : ℕ) → CodeHead → List ℕ
rest_of bytes quote head =
    let start = quote + 1 + head.length in take (length bytes - start) (drop start bytes)

-- the digits, of which so many bytes come
abbrev pub digits_of : List ℕ → (quote : ℕ) → CodeHead → ℕ → List ℕ
digits_of bytes quote head n = take n (rest_of bytes quote head)

-- a based literal by the place of its `'`, its size, its head and its digits
based_by : (bytes : List ℕ) (quote : ℕ) (size : Option ℕ) (head : CodeHead) (n : ℕ) →
    1 ≤ unwrap_or size 32 → unwrap_or size 32 ≤ 64 → quote + 1 + head.length ≤ length bytes →
    n ≡ prefix_len continues_digits (rest_of bytes quote head) →
    based_at (drop 1 bytes) size (head_behind bytes (quote + 1) head) ≡
    based_front size head.signed head.base (digits_of bytes quote head n)
    (quote + 1 + head.length + length (digits_of bytes quote head n) - 1)
based_by bytes quote size head n some few within count =
    let start : ℕ = quote + 1 + head.length in
    based_is bytes start size (head_behind bytes (quote + 1) head) (digits_of bytes quote head n)
    some few (omega arith) within (drop-drop head.length (quote + 1) bytes)
    (digits_are (rest_of bytes quote head) (drop start bytes) n (take_rest bytes start) count)

pub four_by : (bytes : List ℕ) (quote : ℕ) (size : Option ℕ) (head : CodeHead) (n : ℕ) →
    1 ≤ unwrap_or size 32 → unwrap_or size 32 ≤ 64 → quote + 1 + head.length ≤ length bytes →
    n ≡ prefix_len continues_digits (rest_of bytes quote head) →
    next_is is_underscore (digits_of bytes quote head n) ≡ false →
    list_any is_four_state (digits_of bytes quote head n) ≡ true →
    based_at (drop 1 bytes) size (head_behind bytes (quote + 1) head) ≡
    unsupported (codes "four-state")
four_by bytes quote size head n some few within count clean four =
    let start : ℕ = quote + 1 + head.length in
    let digits : List ℕ = digits_of bytes quote head n in
    based_by bytes quote size head n some few within count
    ∙ based_four size head.signed head.base digits (start + length digits - 1) clean four

pub known_by : (bytes : List ℕ) (quote : ℕ) (size : Option ℕ) (head : CodeHead) (n : ℕ)
    (o : Option ℕ) →
    1 ≤ unwrap_or size 32 → unwrap_or size 32 ≤ 64 → quote + 1 + head.length ≤ length bytes →
    n ≡ prefix_len continues_digits (rest_of bytes quote head) →
    next_is is_underscore (digits_of bytes quote head n) ≡ false →
    list_any is_four_state (digits_of bytes quote head n) ≡ false →
    o ≡ literal_value size head.base (digits_of bytes quote head n) →
    based_at (drop 1 bytes) size (head_behind bytes (quote + 1) head) ≡
    option_map_or (λ v. token (numeral (based_literal size head.signed v))
    (quote + 1 + head.length + length (digits_of bytes quote head n) - 1)) o
    bad_number
known_by bytes quote size head n o some few within count clean two is =
    let start : ℕ = quote + 1 + head.length in
    let digits : List ℕ = digits_of bytes quote head n in
    based_by bytes quote size head n some few within count
    ∙ based_known size head.signed head.base digits (start + length digits - 1) o clean two is
