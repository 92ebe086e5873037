-- What is written of a number is read as that number.
use Rattle.std.proofs.Common.{◌≡◌, ℕ, zero, suc, ◌+◌, ◌-◌, ◌*◌, ◌<◌, ◌≤◌, ◌^◌, ℤ, pos, negsuc}
use Rattle.std.proofs.Common.{unsigned_abs, List, ◌∷◌, refl, sym, ap, ◌∙◌, subst, ⊎_elim, length}
use Rattle.std.proofs.Common.{get_or, take, decimal, arith}
use Rattle.std.specs.Fmt.{signed_decimal}
use Rattle.std.specs.Char.{digit_value}
use Rattle.std.specs.Str.Parse.{digits_value, AllDigits}
use Rattle.std.proofs.lemmas.Str.Parse.{IsNumeralModel, numerals_by_value, tells_digits}
use Rattle.std.proofs.lemmas.Str.Parse.{not_in_digits, digits_value-take-le}
use Rattle.std.proofs.lemmas.Int.Digits.{digits_more, digits_value_more}
use Rattle.std.proofs.lemmas.Fmt.{digits_decimal, digits_value-decimal, decimal-digits_value}
use Rattle.std.proofs.lemmas.Fmt.{decimal_nonempty, first_decimal, decimal_digit, decimal_injective}
use Rattle.std.proofs.lemmas.Bool.{cases_lt}
use Rattle.std.proofs.lemmas.Bool.Decides.{nat_tests}
use Rattle.std.proofs.lemmas.List.{take_all}

own : IsNumeralModel (AllDigits 10) (digits_value 10)
own = numerals_by_value (AllDigits 10) tells_digits

digit_is : (c : ℕ) → 48 ≤ c → c ≤ 57 → digit_value c ≡ c - 48
digit_is c low high = grind (arith, nat_tests)

pub none_empty : (word : List ℕ) (n : ℕ) → length word ≡ 0 → n < 2 ^ 64 → word ≡ decimal n → ⊥
none_empty word n empty small e =
    let some : 0 < length (decimal n) = decimal_nonempty n small in
    let same : length word ≡ length (decimal n) = ap length e in absurd (omega arith)

pub none_leading : (word : List ℕ) (n : ℕ) → get_or word 0 0 ≡ 48 → 1 < length word → n < 2 ^ 64 →
    word ≡ decimal n → ⊥
none_leading word zero first long small e =
    let same : length word ≡ 1 = ap length (e ∙ decimal_digit 0 (omega arith)) in
    absurd (omega arith)
none_leading word (suc n) first long small e =
    let above : 48 < get_or (decimal (suc n)) 0 0 = first_decimal (suc n) (omega arith) small in
    let same : get_or word 0 0 ≡ get_or (decimal (suc n)) 0 0 = ap (λ z. get_or z 0 0) e in
    absurd (omega arith)

pub none_other : (word : List ℕ) (k n : ℕ) → k < length word →
    (48 ≤ get_or word k 0 → get_or word k 0 ≤ 57 → ⊥) → n < 2 ^ 64 → word ≡ decimal n → ⊥
none_other word k n inside other small e =
    not_in_digits own word (get_or word k 0)
    (subst (AllDigits 10) (sym e) (digits_decimal own n small)) (λ within.
    other within.0 within.1) k inside refl

pub digits_so_far : (word : List ℕ) (k value : ℕ) → k < length word → 48 ≤ get_or word k 0
    → get_or word k 0 ≤ 57 → AllDigits 10 (take k word) → value ≡ digits_value 10 (take k word)
    → AllDigits 10 (take (k + 1) word)
    × (value * 10 + (get_or word k 0 - 48) ≡ digits_value 10 (take (k + 1) word))
digits_so_far word k value inside low high all is =
    let d : digit_value (get_or word k 0) ≡ get_or word k 0 - 48 =
    digit_is (get_or word k 0) low high in (
      digits_more 10 word k inside all (omega arith),
      ap (λ v. v * 10 + (get_or word k 0 - 48)) is
          ∙ ap (λ v. digits_value 10 (take k word) * 10 + v) (sym d)
          ∙ sym (digits_value_more 10 word k inside),
    )

pub none_large : (word : List ℕ) (k value n : ℕ) → k < length word → 48 ≤ get_or word k 0
    → get_or word k 0 ≤ 57 → AllDigits 10 (take k word) → value ≡ digits_value 10 (take k word)
    → 2 ^ 64 ≤ value * 10 + (get_or word k 0 - 48) → n < 2 ^ 64 → word ≡ decimal n → ⊥
none_large word k value n inside low high all is large small e =
    let so_far = (digits_so_far word k value inside low high all is).1 in
    let part : digits_value 10 (take (k + 1) word) ≤ digits_value 10 word =
    digits_value-take-le 10 word (k + 1) (omega arith) in
    let whole : digits_value 10 word ≡ n =
    ap (digits_value 10) e ∙ digits_value-decimal own n small in absurd (omega arith)

pub number_is : (word : List ℕ) (k value : ℕ) → length word ≤ k → (length word ≡ 0 → ⊥) →
    (get_or word 0 0 ≡ 48 → 1 < length word → ⊥) → AllDigits 10 (take k word) →
    value ≡ digits_value 10 (take k word) → value < 2 ^ 64 → word ≡ decimal value
number_is word k value past some plain all is small =
    let whole : take k word ≡ word = take_all k word past in
    let value_is : value ≡ digits_value 10 word = is ∙ ap (digits_value 10) whole in
    let positive : 0 < length word =
    ⊎_elim (λ h. h) (λ h. absurd (some (omega arith))) (cases_lt 0 (length word)) in
    sym (ap decimal value_is
    ∙ decimal-digits_value own word (subst (AllDigits 10) whole all) positive
    (λ zero_first. ⊎_elim (λ long. absurd (plain zero_first long)) (λ short.
    omega arith) (cases_lt 1 (length word)))
    (omega arith))

-- no number is written with a minus sign first
pub none_signed : (rest : List ℕ) (n : ℕ) → n < 2 ^ 64 → 45 ∷ rest ≡ decimal n → ⊥
none_signed rest n small e =
    none_other (45 ∷ rest) 0 n (omega arith) (λ low high. absurd (omega arith)) small e

pub negated_none : (digits : List ℕ) → ((n : ℕ) → n < 2 ^ 31 → digits ≡ decimal n → ⊥) → (l : ℤ) →
    unsigned_abs l < 2 ^ 31 → 45 ∷ digits ≡ signed_decimal l → ⊥
negated_none digits none (pos n) small e = none_signed digits n (omega arith) e
negated_none digits none (negsuc n) small e =
    let same : digits ≡ decimal (suc n) = cc in none (suc n) small same

pub negated_zero : (digits : List ℕ) → digits ≡ decimal 0 → (l : ℤ) → unsigned_abs l < 2 ^ 31 →
    45 ∷ digits ≡ signed_decimal l → ⊥
negated_zero digits zero_is (pos n) small e = none_signed digits n (omega arith) e
negated_zero digits zero_is (negsuc n) small e =
    let same : digits ≡ decimal (suc n) = cc in
    let wrong : 0 ≡ suc n =
    decimal_injective 0 (suc n) (omega arith) (omega arith) (sym zero_is ∙ same) in
    absurd (omega arith)

pub plain_none : (word : List ℕ) → ((rest : List ℕ) → word ≡ 45 ∷ rest → ⊥) →
    ((n : ℕ) → n < 2 ^ 31 → word ≡ decimal n → ⊥) → (l : ℤ) → unsigned_abs l < 2 ^ 31 →
    word ≡ signed_decimal l → ⊥
plain_none word unsigned none (pos n) small e = none n small e
plain_none word unsigned none (negsuc n) small e = unsigned (decimal (suc n)) e
