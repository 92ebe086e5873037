-- What comparisons of bits say of the numbers that values stand for.
use Rattle.std.proofs.Common.{◌≡◌, ℕ, zero, suc, ◌+◌, ◌-◌, ◌*◌, ◌/◌, ◌%◌, ◌^◌, ◌<◌, ◌≤◌, Bool, true, false}
use Rattle.std.proofs.Common.{not, nat_lt, leb, cond, List, map, take, drop, length}
use Rattle.std.proofs.Common.{refl, sym, ap, ap₂, ◌∙◌, subst, arith, length-take}
use Rattle.std.proofs.Common.{length-drop}
use Rattle.std.specs.Prelude.{ℤ, pos, negsuc, int_lt, int_le}
use Rattle.std.proofs.Math.Nat.{mod-eq_of_lt, div-eq_of_lt, pow-suc}
use Rattle.std.proofs.lemmas.Nat.{pow_pos, div-add-mod'}
use Rattle.std.proofs.lemmas.Bool.{lt-ltb, le-ltb, leb-true, leb-false}
use Rattle.sv_num.specs.Vectors.{as_number}
use Rattle.sv_num.proofs.NumberLemmas.{number_at, below_zero}
use Rattle.sv_circuits.proofs.Comparisons.{ordered_bits}
use Rattle.sv_circuits.proofs.OperatorBits.{less_than_bits}
use Rattle.sv_circuits.proofs.BitNumbers.{number, number_low, not_number, not_length}
use Rattle.sv_circuits.proofs.BitTests.{same_order, less_number}
use Rattle.sv_circuits.proofs.BitMoves.{both_length, both_number, take_number, drop_number}

-- a value of n bits with its highest bit turned
abbrev pub turned : (n v : ℕ) → ℕ
turned n v = cond (leb (2 ^ (n - 1)) v) (v - 2 ^ (n - 1)) (v + 2 ^ (n - 1))

pub ordered_length : (signed : Bool) (bs : List Bool) → length (ordered_bits signed bs) ≡ length bs
ordered_length false bs = refl
ordered_length true bs =
    let k = length bs - 1 in
    both_length (take k bs) (map not (drop k bs))
    ∙ ap₂ ◌+◌ (length-take k bs) (not_length (drop k bs) ∙ length-drop k bs)
    ∙ omega arith

pub ordered_number : (bs : List Bool) → 1 ≤ length bs →
    number (ordered_bits true bs) ≡ turned (length bs) (number bs)
ordered_number bs some =
    let k = length bs - 1 in
    let p = 2 ^ k in
    let v = number bs in
    let ds = drop k bs in
    let one : length ds ≡ 1 = length-drop k bs ∙ omega (arith, some) in
    let top : number (map not ds) + v / p + 1 ≡ 2 =
    ap (λ m. number (map not ds) + m + 1) (sym (drop_number k bs)) ∙ not_number ds
    ∙ ap (λ j. 2 ^ j) one in
    let size : length (take k bs) ≡ k = length-take k bs ∙ omega (arith, some) in
    both_number (take k bs) (map not ds)
    ∙ ap₂ (λ m j. m + 2 ^ j * number (map not ds)) (take_number k bs) size
    ∙ by_size (leb p v) refl (number (map not ds)) top
  where
    by_size : (t : Bool) → leb (2 ^ (length bs - 1)) (number bs) ≡ t → (d : ℕ) →
        d + number bs / 2 ^ (length bs - 1) + 1 ≡ 2 →
        number bs % 2 ^ (length bs - 1) + 2 ^ (length bs - 1) * d
        ≡ cond (leb (2 ^ (length bs - 1)) (number bs)) (number bs - 2 ^ (length bs - 1))
        (number bs + 2 ^ (length bs - 1))
    by_size true e d top =
        let p = 2 ^ (length bs - 1) in
        let v = number bs in
        let most : p ≤ v = leb-true p v e in
        let whole : v / p * p + v % p ≡ v = div-add-mod' v p in
        let rest : v % p < p = omega (arith, pow_pos (length bs - 1)) in
        let quotient : v / p ≡ 1 = by_quotient (v / p) refl whole rest most top in
        let once : v / p * p ≡ p = ap (λ q. q * p) quotient ∙ omega arith in
        let zero_d : d ≡ 0 = omega (arith, top, quotient) in
        let none : p * d ≡ 0 = ap (λ m. p * m) zero_d ∙ omega arith in
        let value : v % p + p * d ≡ v - p = omega (arith, whole, once, none) in
        value ∙ ap (λ t. cond t (v - p) (v + p)) (sym e)
      where
        by_quotient : (q : ℕ) → number bs / 2 ^ (length bs - 1) ≡ q →
            number bs / 2 ^ (length bs - 1) * 2 ^ (length bs - 1)
            + number bs % 2 ^ (length bs - 1) ≡ number bs →
            number bs % 2 ^ (length bs - 1) < 2 ^ (length bs - 1) →
            2 ^ (length bs - 1) ≤ number bs →
            d + number bs / 2 ^ (length bs - 1) + 1 ≡ 2 → number bs / 2 ^ (length bs - 1) ≡ 1
        by_quotient zero f whole rest most top =
            absurd (omega (arith, ap (λ m. m * 2 ^ (length bs - 1)) f, whole, rest, most))
        by_quotient (suc q) f whole rest most top = omega (arith, f, top)
    by_size false e d top =
        let p = 2 ^ (length bs - 1) in
        let v = number bs in
        let less : v < p = leb-false p v e in
        let quotient : v / p ≡ 0 = div-eq_of_lt less in
        let one_d : d ≡ 1 = omega (arith, top, quotient) in
        let all : p * d ≡ p = ap (λ m. p * m) one_d ∙ omega arith in
        ap₂ ◌+◌ (mod-eq_of_lt less) all ∙ ap (λ t. cond t (v - p) (v + p)) (sym e)

-- ---- signed numbers

as_when : (n v : ℕ) (t : Bool) → leb (2 ^ (n - 1)) v ≡ t → as_number n true v ≡ number_at n t v
as_when n v t e = ap (λ s. number_at n s v) e

turned_when : (n v : ℕ) (t : Bool) → leb (2 ^ (n - 1)) v ≡ t →
    turned n v ≡ cond t (v - 2 ^ (n - 1)) (v + 2 ^ (n - 1))
turned_when n v t e = ap (λ s. cond s (v - 2 ^ (n - 1)) (v + 2 ^ (n - 1))) e

-- signed numbers are in the order of values with their highest bits turned
pub signed_less : (n a b : ℕ) → 1 ≤ n → a < 2 ^ n → b < 2 ^ n →
    int_lt (as_number n true a) (as_number n true b) ≡ nat_lt (turned n a) (turned n b)
signed_less n a b some low_a low_b =
    by_cases (leb (2 ^ (n - 1)) a) refl (leb (2 ^ (n - 1)) b) refl
  where
    power : 2 ^ n ≡ 2 * 2 ^ (n - 1)
    power =
        let next : n ≡ suc (n - 1) = omega (arith, some) in
        ap (λ j. 2 ^ j) next ∙ pow-suc 2 (n - 1) ∙ omega arith

    by_cases : (t : Bool) → leb (2 ^ (n - 1)) a ≡ t → (u : Bool) → leb (2 ^ (n - 1)) b ≡ u →
        int_lt (as_number n true a) (as_number n true b) ≡ nat_lt (turned n a) (turned n b)
    by_cases true e true f =
        let p = 2 ^ (n - 1) in
        ap₂ int_lt (as_when n a true e ∙ below_zero n a low_a)
        (as_when n b true f ∙ below_zero n b low_b)
        ∙ same_order (2 ^ n - 1 - b) (2 ^ n - 1 - a) (a - p) (b - p)
        (λ h. omega (arith, h, low_a, low_b, leb-true p a e, leb-true p b f))
        (λ h. omega (arith, h, low_a, low_b, leb-true p a e, leb-true p b f))
        ∙ sym (ap₂ nat_lt (turned_when n a true e) (turned_when n b true f))
    by_cases true e false f =
        let p = 2 ^ (n - 1) in
        ap₂ int_lt (as_when n a true e ∙ below_zero n a low_a) (as_when n b false f)
        ∙ sym (ap₂ nat_lt (turned_when n a true e) (turned_when n b false f)
        ∙ lt-ltb (a - p) (b + p) (omega (arith, low_a, power, pow_pos (n - 1))))
    by_cases false e true f =
        let p = 2 ^ (n - 1) in
        ap₂ int_lt (as_when n a false e) (as_when n b true f ∙ below_zero n b low_b)
        ∙ sym (ap₂ nat_lt (turned_when n a false e) (turned_when n b true f)
        ∙ le-ltb (a + p) (b - p) (omega (arith, low_b, power)))
    by_cases false e false f =
        let p = 2 ^ (n - 1) in
        ap₂ int_lt (as_when n a false e) (as_when n b false f)
        ∙ same_order a b (a + p) (b + p) (λ h. omega (arith, h)) (λ h. omega (arith, h))
        ∙ sym (ap₂ nat_lt (turned_when n a false e) (turned_when n b false f))

pub less_than_number : (signed : Bool) (a b : List Bool) → length a ≡ length b → 1 ≤ length a →
    less_than_bits signed a b
    ≡ int_lt (as_number (length a) signed (number a)) (as_number (length a) signed (number b))
less_than_number false a b e some =
    let none : number b + 0 ≡ number b = omega arith in
    less_number a b false e ∙ ap (nat_lt (number a)) none
less_than_number true a b e some =
    let x = ordered_bits true a in
    let y = ordered_bits true b in
    let n = length a in
    let none : number y + 0 ≡ number y = omega arith in
    let low_b : number b < 2 ^ n = subst (λ k. number b < 2 ^ k) (sym e) (number_low b) in
    less_number x y false (ordered_length true a ∙ e ∙ sym (ordered_length true b))
    ∙ ap (nat_lt (number x)) none
    ∙ ap₂ nat_lt (ordered_number a some)
    (ordered_number b (omega (arith, e, some)) ∙ ap (λ k. turned k (number b)) (sym e))
    ∙ sym (signed_less n (number a) (number b) some (number_low a) low_b)

-- not less is at most
le_not : (a b : ℕ) → leb a b ≡ not (nat_lt b a)
le_not a b = by_case (leb a b) refl
  where
    by_case : (t : Bool) → leb a b ≡ t → leb a b ≡ not (nat_lt b a)
    by_case true e = e ∙ sym (ap not (le-ltb b a (leb-true a b e)))
    by_case false e = e ∙ sym (ap not (lt-ltb b a (leb-false a b e)))

pub at_most : (x y : ℤ) → int_le x y ≡ not (int_lt y x)
at_most (pos a) (pos b) = le_not a b
at_most (pos a) (negsuc b) = refl
at_most (negsuc a) (pos b) = refl
at_most (negsuc a) (negsuc b) = le_not b a
