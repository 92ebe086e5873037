-- Words that are values, digit by digit.
use Rattle.std.proofs.Common.{◌≡◌, ℕ, ◌+◌, ◌*◌, ◌^◌, ◌<◌, ◌≤◌, Bool, true, false, ◌&&◌}
use Rattle.std.proofs.Common.{◌==◌, nat_le, nat_lt}
use Rattle.std.proofs.Common.{List, [], ◌∷◌, length, take, get_or, refl, sym, ap, ◌∙◌, subst, arith}
use Rattle.std.specs.Char.{digit_value, is_digit}
use Rattle.std.specs.List.{list_all}
use Rattle.std.specs.Str.Parse.{AllDigits, digits_value}
use Rattle.std.proofs.Math.Nat.{pow-le-pow_right}
use Rattle.std.proofs.lemmas.Bool.{lt-ltb, le-leb, eqb-false}
use Rattle.std.proofs.lemmas.Int.Digits.{digits_more, digits_value_more, digits_value-lt}
use Rattle.std.proofs.lemmas.List.{length-take-le, take_all}
use Rattle.sv_trace.specs.Stimulus.{is_value}

holds : (a b c d : Bool) → a ≡ true → b ≡ true → c ≡ true → d ≡ true → (a && b && c && d) ≡ true
holds a b c d ea eb ec ed = cc

all_digits : (ds : List ℕ) → AllDigits 16 ds → list_all (λ c. is_digit c 16) ds ≡ true
all_digits [] all = refl
all_digits (c ∷ cs) all =
    rw (lt-ltb (digit_value c) 16 all.0) (all_digits cs all.1)

abbrev digits_all : List ℕ → Bool
digits_all ds = list_all (λ c. is_digit c 16) ds

abbrev fits : ℕ → List ℕ → Bool
fits width ds = nat_lt (digits_value 16 ds) (2 ^ width)

pub right_is_one : (width : ℕ) (ds : List ℕ) → 0 < length ds → length ds ≤ 16 → AllDigits 16 ds
    → digits_value 16 ds < 2 ^ width → is_value width ds ≡ true
right_is_one width ds some few all low =
    holds (nat_le 1 (length ds)) (nat_le (length ds) 16) (digits_all ds) (fits width ds) (le-leb 1
    (length ds) (omega arith)) (le-leb (length ds) 16 few)
    (all_digits ds all) (lt-ltb (digits_value 16 ds) (2 ^ width) low)

-- fifteen digits leave room for one more
pub has_room_for_digit : (ds : List ℕ) (k value : ℕ) → k < length ds → length ds ≤ 16
    → AllDigits 16 (take k ds) → value ≡ digits_value 16 (take k ds) → value < 2 ^ 60
has_room_for_digit ds k value inside few all is =
    let below : digits_value 16 (take k ds) < 16 ^ length (take k ds) =
    digits_value-lt 16 (take k ds) all in
    let count : length (take k ds) ≡ k = length-take-le k ds (omega arith) in
    let most : 16 ^ length (take k ds) ≤ 16 ^ 15 =
    pow-le-pow_right {n = 16} (omega arith) {i = length (take k ds)} {j = 15} (omega arith) in
    omega arith

pub one_more : (ds : List ℕ) (k value : ℕ) → k < length ds → digit_value (get_or ds k 0) < 16
    → AllDigits 16 (take k ds) → value ≡ digits_value 16 (take k ds)
    → AllDigits 16 (take (k + 1) ds)
    × (value * 16 + digit_value (get_or ds k 0) ≡ digits_value 16 (take (k + 1) ds))
one_more ds k value inside small all is = (
  digits_more 16 ds k inside all small,
  ap (λ v. v * 16 + digit_value (get_or ds k 0)) is ∙ sym (digits_value_more 16 ds k inside),
)

pub whole_is_one : (width : ℕ) (ds : List ℕ) (k value : ℕ) → (length ds == 0) ≡ false
    → length ds ≤ 16 → length ds ≤ k → AllDigits 16 (take k ds)
    → value ≡ digits_value 16 (take k ds) → value < 2 ^ width → is_value width ds ≡ true
whole_is_one width ds k value some few past all is low =
    let whole : take k ds ≡ ds = take_all k ds past in
    let same : value ≡ digits_value 16 ds = is ∙ ap (digits_value 16) whole in
    let more : length ds ≡ 0 → ⊥ = eqb-false (length ds) 0 some in
    right_is_one width ds (omega arith) few (subst (AllDigits 16) whole all)
    (subst (λ v. v < 2 ^ width) same low)
