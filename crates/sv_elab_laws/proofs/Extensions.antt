-- Values at a greater length.
use Rattle.std.proofs.Common.{◌≡◌, ℕ, zero, suc, ◌+◌, ◌-◌, ◌*◌, ◌/◌, ◌%◌, ◌^◌, ◌<◌, ◌≤◌, min, max}
use Rattle.std.proofs.Common.{Bool, true, false, ⊎_elim, refl, sym, ap, ◌∙◌, arith}
use Rattle.std.specs.Prelude.{bit_and, bit_or, bit_xor}
use Rattle.std.specs.Int.{bit_at}
use Rattle.std.proofs.lemmas.Bool.{leb-true, leb-false, le-leb, lt-leb, cases_lt}
use Rattle.std.proofs.lemmas.Nat.{pow_pos, pow-add, div-mul-add, and_le_l, or_lt, xor_lt}
use Rattle.std.proofs.lemmas.Nat.Bits.{bit_at_and, bit_at_or, bit_at_xor, bit_at_ones, bit_at_above}
use Rattle.std.proofs.lemmas.Nat.Bits.{bit_at_cat_low, bit_at_cat_high, same_from_bits_below}
use Rattle.std.proofs.Math.Pow.{pow_mono}
use Rattle.sv_num.specs.Vectors.{is_negative, reduced}
use Rattle.sv_num.specs.Parts.{extended}
use Rattle.sv_num.proofs.NumberLemmas.{number_at, wider_above, wider_below}
use Rattle.sv_width.proofs.WellFormed.{reduced_low}

-- 2 to a length that is not 0
pub doubled : (n : ℕ) → 1 ≤ n → 2 ^ n ≡ 2 ^ (n - 1) + 2 ^ (n - 1)
doubled n some =
    let split : 2 ^ (n - 1 + 1) ≡ 2 ^ (n - 1) * 2 = pow-add 2 (n - 1) 1 in
    let whole : 2 ^ n ≡ 2 ^ (n - 1 + 1) = ap (λ k. 2 ^ k) (omega arith) in
    omega (arith, split, whole)

-- what the highest bit says of a value of m bits
extended_as : (t : Bool) (s : Bool) (m n v : ℕ) → is_negative m s v ≡ t →
    extended s m n v ≡ reduced n (number_at m t v)
extended_as t s m n v is = ap (λ b. reduced n (number_at m b v)) is

-- a value whose highest bit does not make it negative stays
pub extended_above : (s : Bool) (m n v : ℕ) → m ≤ n → v < 2 ^ m → is_negative m s v ≡ false →
    extended s m n v ≡ v
extended_above s m n v wider low is = extended_as false s m n v is ∙ wider_above m n v wider low

pub extended_below : (s : Bool) (m n v : ℕ) → m ≤ n → v < 2 ^ m → is_negative m s v ≡ true
    → extended s m n v ≡ 2 ^ n - 1 - (2 ^ m - 1 - v)
extended_below s m n v wider low is = extended_as true s m n v is ∙ wider_below m n v wider low

-- a negative value has a highest bit
negative_some : (m v : ℕ) → v < 2 ^ m → is_negative m true v ≡ true → (1 ≤ m) × (2 ^ (m - 1) ≤ v)
negative_some zero v low is = absurd (no_bits (leb-true (2 ^ (0 - 1)) v is))
  where
    no_bits : 2 ^ (0 - 1) ≤ v → ⊥
    no_bits h = omega (arith, h, low)
negative_some (suc m) v low is = (omega arith, leb-true (2 ^ (suc m - 1)) v is)

-- an unsigned value stays
pub unsigned_extended : (m n v : ℕ) → m ≤ n → v < 2 ^ m → extended false m n v ≡ v
unsigned_extended m n v wider low = extended_above false m n v wider low refl

-- at its own length a value stays
pub extended_same : (s : Bool) (m v : ℕ) → v < 2 ^ m → extended s m m v ≡ v
extended_same s m v low = by (is_negative m s v) refl
  where
    by : (t : Bool) → is_negative m s v ≡ t → extended s m m v ≡ v
    by true is = extended_below s m m v (omega arith) low is ∙ omega arith
    by false is = extended_above s m m v (omega arith) low is

-- it may be extended in two steps
pub extended_twice : (s : Bool) (w m n v : ℕ) → w ≤ m → m ≤ n → v < 2 ^ w
    → extended s w n v ≡ extended s m n (extended s w m v)
extended_twice false w m n v first second low =
    let more : 2 ^ w ≤ 2 ^ m = pow_mono first in
    unsigned_extended w n v (omega arith) low
    ∙ sym (unsigned_extended m n v second (omega arith))
    ∙ ap (λ x. extended false m n x) (sym (unsigned_extended w m v first low))
extended_twice true w m n v first second low = by (is_negative w true v) refl
  where
    by : (t : Bool) → is_negative w true v ≡ t →
        extended true w n v ≡ extended true m n (extended true w m v)
    by true is =
        let some = negative_some w v low is in
        let y : ℕ = 2 ^ m - 1 - (2 ^ w - 1 - v) in
        let half : 2 ^ (w - 1) ≤ 2 ^ (m - 1) = pow_mono (omega (arith, first)) in
        let two_w = doubled w some.0 in
        let two_m = doubled m (omega (arith, first, some.0)) in
        let high : is_negative m true y ≡ true =
        le-leb (2 ^ (m - 1)) y (omega (arith, half, two_w, two_m, some.1, low)) in
        let y_low : y < 2 ^ m = omega (arith, pow_pos m) in
        extended_below true w n v (omega arith) low is
        ∙ omega (arith, low, half, two_w, two_m, some.1)
        ∙ sym (extended_below true m n y second y_low high)
        ∙ ap (λ x. extended true m n x) (sym (extended_below true w m v first low is))
    by false is =
        let less = leb-false (2 ^ (w - 1)) v is in
        let half : 2 ^ (w - 1) ≤ 2 ^ (m - 1) = pow_mono (omega (arith, first)) in
        let more : 2 ^ w ≤ 2 ^ m = pow_mono first in
        let no_sign : is_negative m true v ≡ false =
        lt-leb (2 ^ (m - 1)) v (omega (arith, less, half)) in
        extended_above true w n v (omega arith) low is
        ∙ sym (extended_above true m n v second (omega arith) no_sign)
        ∙ ap (λ x. extended true m n x) (sym (extended_above true w m v first low is))

-- ---- by bits

next_times : (a b : ℕ) → (a + 1) * b ≡ a * b + b
next_times a b = grind arith

-- the bits above a signed value are copies of its highest one
sign_bits : (m n v i : ℕ) → 1 ≤ m → m ≤ n → v < 2 ^ m → i < n →
    bit_at (extended true m n v) i ≡ bit_at v (min i (m - 1))
sign_bits m n v i some wider low inside = by (is_negative m true v) refl
  where
    by : (t : Bool) → is_negative m true v ≡ t →
        bit_at (extended true m n v) i ≡ bit_at v (min i (m - 1))
    by true is =
        let high : 2 ^ (m - 1) ≤ v = leb-true (2 ^ (m - 1)) v is in
        let split : 2 ^ (n - m + m) ≡ 2 ^ (n - m) * 2 ^ m = pow-add 2 (n - m) m in
        let whole : 2 ^ n ≡ 2 ^ (n - m + m) = ap (λ k. 2 ^ k) (omega arith) in
        let two = doubled m some in
        let ones : ℕ = 2 ^ (n - m) - 1 in
        let one_more : ones + 1 ≡ 2 ^ (n - m) = omega (arith, pow_pos (n - m)) in
        let times : (ones + 1) * 2 ^ m ≡ 2 ^ (n - m) * 2 ^ m = ap (λ k. k * 2 ^ m) one_more in
        let apart : (ones + 1) * 2 ^ m ≡ ones * 2 ^ m + 2 ^ m = next_times ones (2 ^ m) in
        let ones_above : 2 ^ n - 1 - (2 ^ m - 1 - v) ≡ ones * 2 ^ m + v =
        omega (arith, split, whole, low, times, apart) in
        let top : bit_at v (m - 1) ≡ 1 = ap (λ x. x / 2 ^ (m - 1) % 2) (omega (arith, high))
        ∙ ap (λ x. x % 2) (div-mul-add 1 (2 ^ (m - 1)) (v - 2 ^ (m - 1))
        (omega (arith, two, low, high))) in
        ap (λ x. bit_at x i) (extended_below true m n v wider low is ∙ ones_above)
        ∙ ⊎_elim
        (λ under. bit_at_cat_low (2 ^ (n - m) - 1) m v i under
        ∙ ap (bit_at v) (omega (arith, under)))
        (λ over. bit_at_cat_high (2 ^ (n - m) - 1) m v i low over
        ∙ bit_at_ones (n - m) (i - m) (omega (arith, over, inside))
        ∙ sym top
        ∙ ap (bit_at v) (omega (arith, over)))
        (cases_lt i m)
    by false is =
        let less = leb-false (2 ^ (m - 1)) v is in
        ap (λ x. bit_at x i) (extended_above true m n v wider low is)
        ∙ ⊎_elim
        (λ under. ap (bit_at v) (omega (arith, under)))
        (λ over. bit_at_above v (m - 1) i less (omega (arith, over))
        ∙ sym (bit_at_above v (m - 1) (m - 1) less (omega arith))
        ∙ ap (bit_at v) (omega (arith, over)))
        (cases_lt i m)

-- what works bit by bit may be done before or after
module _ (f g : ℕ → ℕ → ℕ) (bits : (x y i : ℕ) → bit_at (f x y) i ≡ g (bit_at x i) (bit_at y i))
    (low : (k x y : ℕ) → x < 2 ^ k → y < 2 ^ k → f x y < 2 ^ k) where
  signed_bitwise : (m n a b : ℕ) → 1 ≤ m → m ≤ n → a < 2 ^ m → b < 2 ^ m
      → f (extended true m n a) (extended true m n b) ≡ extended true m n (f a b)
  signed_bitwise m n a b some wider p q =
      same_from_bits_below n _ _ (low n _ _ (reduced_low n _) (reduced_low n _)) (reduced_low n _)
      (λ i inside.
      bits (extended true m n a) (extended true m n b) i
      ∙ ap (λ x. g x (bit_at (extended true m n b) i)) (sign_bits m n a i some wider p inside)
      ∙ ap (λ x. g (bit_at a (min i (m - 1))) x) (sign_bits m n b i some wider q inside)
      ∙ sym (bits a b (min i (m - 1)))
      ∙ sym (sign_bits m n (f a b) i some wider (low m a b p q) inside))

  -- where there is no bit, both are 0
  pub bitwise : (s : Bool) (m n a b : ℕ) → f 0 0 ≡ 0 → m ≤ n → a < 2 ^ m → b < 2 ^ m
      → f (extended s m n a) (extended s m n b) ≡ extended s m n (f a b)
  bitwise false m n a b none wider p q =
      ap (λ x. f x (extended false m n b)) (unsigned_extended m n a wider p)
      ∙ ap (λ x. f a x) (unsigned_extended m n b wider q)
      ∙ sym (unsigned_extended m n (f a b) wider (low m a b p q))
  bitwise true m n a b none wider p q = ⊎_elim
      (λ under.
      let m_is : m ≡ 0 = omega (arith, under) in
      let a_is : a ≡ 0 = no_bits a p under in
      let b_is : b ≡ 0 = no_bits b q under in
      let f_is : f a b ≡ 0 = ap (λ x. f x b) a_is ∙ ap (λ x. f 0 x) b_is ∙ none in
      ap (λ x. f (extended true m n x) (extended true m n b)) a_is
      ∙ ap (λ x. f (extended true m n 0) (extended true m n x)) b_is
      ∙ ap (λ x. f x x) (zero_stays under)
      ∙ none
      ∙ sym (zero_stays under)
      ∙ ap (λ x. extended true m n x) (sym f_is))
      (λ some. signed_bitwise m n a b some wider p q)
      (cases_lt m 1)
    where
      no_bits : (x : ℕ) → x < 2 ^ m → m < 1 → x ≡ 0
      no_bits x low_x under =
          let m_is : m ≡ 0 = omega (arith, under) in
          let is : 2 ^ m ≡ 2 ^ 0 = ap (λ k. 2 ^ k) m_is in
          omega (arith, is, low_x)

      zero_stays : m < 1 → extended true m n 0 ≡ 0
      zero_stays under =
          extended_above true m n 0 wider (pow_pos m) (lt-leb (2 ^ (m - 1)) 0 (pow_pos (m - 1)))

pub extended_and : (s : Bool) (m n a b : ℕ) → m ≤ n → a < 2 ^ m → b < 2 ^ m
    → bit_and (extended s m n a) (extended s m n b) ≡ extended s m n (bit_and a b)
extended_and s m n a b =
    bitwise bit_and min bit_at_and (λ k x y p q. omega (arith, and_le_l x y, p)) s m n a b refl

pub extended_or : (s : Bool) (m n a b : ℕ) → m ≤ n → a < 2 ^ m → b < 2 ^ m
    → bit_or (extended s m n a) (extended s m n b) ≡ extended s m n (bit_or a b)
extended_or s m n a b = bitwise bit_or max bit_at_or or_lt s m n a b refl

pub extended_xor : (s : Bool) (m n a b : ℕ) → m ≤ n → a < 2 ^ m → b < 2 ^ m
    → bit_xor (extended s m n a) (extended s m n b) ≡ extended s m n (bit_xor a b)
extended_xor s m n a b = bitwise bit_xor (λ x y. (x + y) % 2) bit_at_xor xor_lt s m n a b refl
