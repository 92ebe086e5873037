-- Whole numbers modulo powers of two, and the numbers that values stand for.
use Rattle.std.proofs.Common.{◌≡◌, ℕ, suc, ◌+◌, ◌-◌, ◌*◌, ◌/◌, ◌%◌, ◌^◌, ◌<◌, ◌≤◌, Bool, true}
use Rattle.std.proofs.Common.{false, cond, refl, sym, ap, ◌∙◌, arith}
use Rattle.std.specs.Prelude.{not, int_div, int_rem, ℤ, pos, negsuc, ◌+ℤ◌, ◌-ℤ◌, ◌*ℤ◌, neg_ℤ}
use Rattle.std.specs.Prelude.{unsigned_abs, bit_and}
use Rattle.std.specs.Int.{int_shr}
use Rattle.std.proofs.lemmas.Int.{ints, int_rem_euclid_is}
use Rattle.std.proofs.lemmas.Nat.{pow_pos, pow-add, and_mask, mod_low, mod-pow-add, mod_below}
use Rattle.std.proofs.lemmas.Nat.Bits.{ones_shr}
use Rattle.std.proofs.Math.Nat.{mod-eq_of_lt, add-mul-mod_self_right, add-mod_right, div-add-mod'}
use Rattle.std.proofs.Math.Nat.{mul-mod_left, div-eq_of_lt, div-le_self, mod-le}
use Rattle.std.proofs.Math.Pow.{pow_mono}
use Rattle.sv_num.specs.Vectors.{reduced}

-- ---- machine words

pub low_mask : (number width : ℕ) → width ≤ 64 →
    bit_and number ((2 ^ 64 - 1) / 2 ^ (64 - width)) ≡ number % 2 ^ width
low_mask number width few =
    ap (bit_and number) (ones_shr 64 (64 - width) (omega arith) ∙ ap (λ k. 2 ^ k - 1) (omega arith))
    ∙ and_mask number width

-- a number modulo 2^64 is the same modulo 2^n
pub word_low : (a n : ℕ) → n ≤ 64 → a % 2 ^ 64 % 2 ^ n ≡ a % 2 ^ n
word_low a n few =
    ap (λ k. a % 2 ^ k % 2 ^ n) (let k : 64 ≡ 64 - n + n = omega arith in k)
    ∙ ap (λ m. m % 2 ^ n) (mod-pow-add a (64 - n) n)
    ∙ mod_low (a / 2 ^ n % 2 ^ (64 - n)) n (a % 2 ^ n) (mod_below a (2 ^ n) (pow_pos n))

-- ---- reduced

pos_same : (a b : ℕ) → pos a ≡ pos b → a ≡ b
pos_same a b e = cc

-- z plus some times 2^n is m, so z is m modulo 2^n
pub reduced_is : (n : ℕ) (z : ℤ) (k m : ℕ) → z +ℤ pos (k * 2 ^ n) ≡ pos m → reduced n z ≡ m % 2 ^ n
reduced_is n (pos a) k m e =
    pos_same (a % 2 ^ n) (m % 2 ^ n)
    (int_rem_euclid_is (pos a) (pos (2 ^ n)) (2 ^ n) k m (pow_pos n) refl e)
reduced_is n (negsuc a) k m e =
    pos_same (2 ^ n - 1 - a % 2 ^ n) (m % 2 ^ n)
    (int_rem_euclid_is (negsuc a) (pos (2 ^ n)) (2 ^ n) k m (pow_pos n) refl e)

-- a number of n bits that is below 0
pub below_zero : (n v : ℕ) → v < 2 ^ n → pos v -ℤ pos (2 ^ n) ≡ negsuc (2 ^ n - 1 - v)
below_zero n v low = omega (arith, ints)

-- ---- what words give

-- a number that v makes a multiple of 2^n
minus_low : (n v r : ℕ) → v ≤ 2 ^ n → (r + v) % 2 ^ n ≡ 0 → r % 2 ^ n ≡ (2 ^ n - v) % 2 ^ n
minus_low n v r low e =
    let q : ℕ = (r + v) / 2 ^ n in
    let parts : q * 2 ^ n + (r + v) % 2 ^ n ≡ r + v = div-add-mod' (r + v) (2 ^ n) in
    let moved : r + 2 ^ n ≡ (2 ^ n - v) + q * 2 ^ n = omega arith in
    sym (add-mod_right r (2 ^ n)) ∙ ap (λ m. m % 2 ^ n) moved
    ∙ add-mul-mod_self_right (2 ^ n - v) q (2 ^ n)

pub low_negated : (n v r : ℕ) → n ≤ 64 → v < 2 ^ n → (r + v) % 2 ^ 64 ≡ 0 →
    r % 2 ^ n ≡ (2 ^ n - v) % 2 ^ n
low_negated n v r few low e =
    minus_low n v r (omega arith) (sym (word_low (r + v) n few) ∙ ap (λ m. m % 2 ^ n) e
    ∙ mod-eq_of_lt (pow_pos n))

-- 2^64 is 2^n, and some times 2^n more
word_over : (n : ℕ) → n ≤ 64 → (p : ℕ) × (2 ^ 64 ≡ (p + 1) * 2 ^ n)
word_over n few =
    let some : 0 < 2 ^ (64 - n) = pow_pos (64 - n) in
    let split : 2 ^ (64 - n + n) ≡ 2 ^ (64 - n) * 2 ^ n = pow-add 2 (64 - n) n in
    let whole : 2 ^ 64 ≡ 2 ^ (64 - n + n) =
    ap (λ k. 2 ^ k) (let k : 64 ≡ 64 - n + n = omega arith in k) in
    (2 ^ (64 - n) - 1, whole ∙ split ∙ ap (λ m. m * 2 ^ n) (omega arith))

pub low_inverted : (n v : ℕ) → n ≤ 64 → v < 2 ^ n → (2 ^ 64 - 1 - v) % 2 ^ n ≡ 2 ^ n - 1 - v
low_inverted n v few low =
    let over = word_over n few in
    let p : ℕ = over.0 in
    let e : 2 ^ 64 ≡ (p + 1) * 2 ^ n = over.1 in
    let moved : 2 ^ 64 - 1 - v ≡ (2 ^ n - 1 - v) + p * 2 ^ n = omega arith in
    ap (λ m. m % 2 ^ n) moved ∙ add-mul-mod_self_right (2 ^ n - 1 - v) p (2 ^ n)
    ∙ mod-eq_of_lt (omega arith)

pub low_difference : (n a b : ℕ) → n ≤ 64 → b < 2 ^ n →
    (a + (2 ^ 64 - b)) % 2 ^ 64 % 2 ^ n ≡ (a + (2 ^ n - b)) % 2 ^ n
low_difference n a b few low =
    let over = word_over n few in
    let p : ℕ = over.0 in
    let e : 2 ^ 64 ≡ (p + 1) * 2 ^ n = over.1 in
    let moved : a + (2 ^ 64 - b) ≡ (a + (2 ^ n - b)) + p * 2 ^ n = omega arith in
    word_low (a + (2 ^ 64 - b)) n few ∙ ap (λ m. m % 2 ^ n) moved
    ∙ add-mul-mod_self_right (a + (2 ^ n - b)) p (2 ^ n)

-- a shift by all bits of a word or more leaves none of n
pub shifted_out : (n a k : ℕ) → n ≤ 64 → 64 ≤ k → a * 2 ^ k % 2 ^ n ≡ 0
shifted_out n a k few far =
    let split : 2 ^ (k - n + n) ≡ 2 ^ (k - n) * 2 ^ n = pow-add 2 (k - n) n in
    let whole : 2 ^ k ≡ 2 ^ (k - n + n) =
    ap (λ j. 2 ^ j) (let j : k ≡ k - n + n = omega arith in j) in
    let moved : a * 2 ^ k ≡ (a * 2 ^ (k - n)) * 2 ^ n =
    ap (λ m. a * m) (whole ∙ split) ∙ omega arith in
    ap (λ m. m % 2 ^ n) moved ∙ mul-mod_left (a * 2 ^ (k - n)) (2 ^ n)

pub shifted_away : (a k : ℕ) → a < 2 ^ 64 → 64 ≤ k → a / 2 ^ k ≡ 0
shifted_away a k low far =
    let more : 2 ^ 64 ≤ 2 ^ k = pow_mono far in
    div-eq_of_lt (omega arith)

-- ---- numbers of n bits

-- the number of a value of n bits that is negative or not
abbrev pub number_at : ℕ → Bool → ℕ → ℤ
number_at n t v = cond t (pos v -ℤ pos (2 ^ n)) (pos v)

-- a value is its number, or 2^n more
pub as_shift : (t : Bool) (n v : ℕ) → (s : ℕ) × (s ≤ 1)
    × (number_at n t v +ℤ pos (s * 2 ^ n) ≡ pos v)
as_shift true n v = (1, omega arith, omega (arith, ints))
as_shift false n v = (0, omega arith, omega (arith, ints))

-- the same value in words has the same remainders
same_mod : (n p q i j : ℕ) → p + i * 2 ^ n ≡ q + j * 2 ^ n → p % 2 ^ n ≡ q % 2 ^ n
same_mod n p q i j e =
    sym (add-mul-mod_self_right p i (2 ^ n)) ∙ ap (λ m. m % 2 ^ n) e
    ∙ add-mul-mod_self_right q j (2 ^ n)

-- the opposite of a number below 2^n
pub opposite_is : (n q : ℕ) → q < 2 ^ n → reduced n (neg_ℤ (pos q)) ≡ (2 ^ n - q) % 2 ^ n
opposite_is n q low = reduced_is n (neg_ℤ (pos q)) 1 (2 ^ n - q) (omega (arith, ints))

module _ (n : ℕ) (t u : Bool) (a b : ℕ) (a_low : a < 2 ^ n) (b_low : b < 2 ^ n) where
  pub sum_is : reduced n (number_at n t a +ℤ number_at n u b) ≡ (a + b) % 2 ^ n
  sum_is =
      let (s, _, d) = as_shift t n a in
      let (r, _, e) = as_shift u n b in
      reduced_is n (number_at n t a +ℤ number_at n u b) (s + r) (a + b) (omega (arith, ints, d, e))

  pub difference_is : reduced n (number_at n t a -ℤ number_at n u b) ≡ (a + (2 ^ n - b)) % 2 ^ n
  difference_is =
      let (s, _, d) = as_shift t n a in
      let (r, _, e) = as_shift u n b in
      reduced_is n (number_at n t a -ℤ number_at n u b) (s + 1) (a + (2 ^ n - b) + r * 2 ^ n)
      (omega (arith, ints, d, e))
      ∙ add-mul-mod_self_right (a + (2 ^ n - b)) r (2 ^ n)

pub negated_is : (n : ℕ) (t : Bool) (a : ℕ) → a < 2 ^ n →
    reduced n (neg_ℤ (number_at n t a)) ≡ (2 ^ n - a) % 2 ^ n
negated_is n t a low =
    let (s, _, d) = as_shift t n a in
    reduced_is n (neg_ℤ (number_at n t a)) 1 ((2 ^ n - a) + s * 2 ^ n) (omega (arith, ints, d))
    ∙ add-mul-mod_self_right (2 ^ n - a) s (2 ^ n)

-- how far below 2^n - 1 a value is: its number is one further below 0
abbrev gap_of : ℕ → ℕ → ℕ
gap_of n v = 2 ^ n - 1 - v

-- the product of numbers is that of values, but for multiples of 2^n
product_left : (n a b : ℕ) → a < 2 ^ n → reduced n (negsuc (gap_of n a) *ℤ pos b) ≡ a * b % 2 ^ n
product_left n a b low =
    let c : ℕ = gap_of n a in
    let whole : 2 ^ n ≡ suc c + a = omega arith in
    let times : b * 2 ^ n ≡ b * (suc c + a) = ap (λ m. b * m) whole in
    reduced_is n (neg_ℤ (pos (suc c * b))) b (a * b) (omega (arith, ints, times))

product_right : (n a b : ℕ) → b < 2 ^ n → reduced n (pos a *ℤ negsuc (gap_of n b)) ≡ a * b % 2 ^ n
product_right n a b low =
    let d : ℕ = gap_of n b in
    let whole : 2 ^ n ≡ suc d + b = omega arith in
    let times : a * 2 ^ n ≡ a * (suc d + b) = ap (λ m. a * m) whole in
    reduced_is n (neg_ℤ (pos (a * suc d))) a (a * b) (omega (arith, ints, times))

product_both : (n a b : ℕ) → a < 2 ^ n → b < 2 ^ n →
    suc (gap_of n a) * suc (gap_of n b) % 2 ^ n ≡ a * b % 2 ^ n
product_both n a b p q =
    let c : ℕ = gap_of n a in
    let d : ℕ = gap_of n b in
    let first : 2 ^ n ≡ suc c + a = omega arith in
    let second : 2 ^ n ≡ suc d + b = omega arith in
    let times_b : b * 2 ^ n ≡ b * (suc c + a) = ap (λ m. b * m) first in
    let times_c : suc c * 2 ^ n ≡ suc c * (suc d + b) = ap (λ m. suc c * m) second in
    same_mod n (suc c * suc d) (a * b) b (suc c) (omega (arith, times_b, times_c))

pub product_is : (n : ℕ) (t u : Bool) (a b : ℕ) → a < 2 ^ n → b < 2 ^ n →
    reduced n (number_at n t a *ℤ number_at n u b) ≡ a * b % 2 ^ n
product_is n false false a b p q = refl
product_is n true false a b p q =
    ap (λ z. reduced n (z *ℤ pos b)) (below_zero n a p) ∙ product_left n a b p
product_is n false true a b p q =
    ap (λ z. reduced n (pos a *ℤ z)) (below_zero n b q) ∙ product_right n a b q
product_is n true true a b p q =
    ap (λ z. reduced n (z *ℤ number_at n true b)) (below_zero n a p)
    ∙ ap (λ z. reduced n (negsuc (gap_of n a) *ℤ z)) (below_zero n b q)
    ∙ product_both n a b p q

-- ---- by size, below 0 and not

abbrev pub is_below : ℤ → Bool
is_below (pos a) = false
is_below (negsuc a) = true

pub below_is : (n : ℕ) (t : Bool) (v : ℕ) → v < 2 ^ n → is_below (number_at n t v) ≡ t
below_is n true v low = ap is_below (below_zero n v low)
below_is n false v low = refl

pub size_is : (n v : ℕ) → v < 2 ^ n → unsigned_abs (number_at n true v) ≡ 2 ^ n - v
size_is n v low = ap unsigned_abs (below_zero n v low) ∙ omega arith

-- a quotient is no greater than its dividend
quotient_low : (n q d : ℕ) → q < 2 ^ n → q / d < 2 ^ n
quotient_low n q d low = omega (arith, div-le_self q d)

remainder_low : (n q d : ℕ) → q < 2 ^ n → q % d < 2 ^ n
remainder_low n q d low = omega (arith, mod-le q d)

pub quotient_same : (n : ℕ) (x y : ℤ) → unsigned_abs x < 2 ^ n → is_below x ≡ is_below y →
    reduced n (int_div x y) ≡ unsigned_abs x / unsigned_abs y
quotient_same n (pos a) (pos b) low e = mod-eq_of_lt (quotient_low n a b low)
quotient_same n (negsuc a) (negsuc b) low e = mod-eq_of_lt (quotient_low n (suc a) (suc b) low)
quotient_same n (pos a) (negsuc b) low e = cc
quotient_same n (negsuc a) (pos b) low e = cc

pub quotient_other : (n : ℕ) (x y : ℤ) → unsigned_abs x < 2 ^ n → is_below x ≡ not (is_below y) →
    reduced n (int_div x y) ≡ (2 ^ n - unsigned_abs x / unsigned_abs y) % 2 ^ n
quotient_other n (pos a) (negsuc b) low e = opposite_is n (a / suc b) (quotient_low n a (suc b) low)
quotient_other n (negsuc a) (pos b) low e = opposite_is n (suc a / b) (quotient_low n (suc a) b low)
quotient_other n (pos a) (pos b) low e = cc
quotient_other n (negsuc a) (negsuc b) low e = cc

pub remainder_above : (n : ℕ) (x y : ℤ) → unsigned_abs x < 2 ^ n → is_below x ≡ false →
    reduced n (int_rem x y) ≡ unsigned_abs x % unsigned_abs y
remainder_above n (pos a) y low e = mod-eq_of_lt (remainder_low n a (unsigned_abs y) low)
remainder_above n (negsuc a) y low e = cc

pub remainder_below : (n : ℕ) (x y : ℤ) → unsigned_abs x < 2 ^ n → is_below x ≡ true →
    reduced n (int_rem x y) ≡ (2 ^ n - unsigned_abs x % unsigned_abs y) % 2 ^ n
remainder_below n (negsuc a) y low e =
    opposite_is n (suc a % unsigned_abs y) (remainder_low n (suc a) (unsigned_abs y) low)
remainder_below n (pos a) y low e = cc

-- ---- shifts and wider types

pub shift_above : (n v k : ℕ) → v < 2 ^ n → reduced n (int_shr (number_at n false v) k) ≡ v / 2 ^ k
shift_above n v k low = mod-eq_of_lt (quotient_low n v (2 ^ k) low)

pub shift_below : (n v k : ℕ) → v < 2 ^ n →
    reduced n (int_shr (number_at n true v) k) ≡ 2 ^ n - 1 - (2 ^ n - 1 - v) / 2 ^ k
shift_below n v k low =
    ap (λ z. reduced n (int_shr z k)) (below_zero n v low)
    ∙ ap (λ m. 2 ^ n - 1 - m) (mod-eq_of_lt (quotient_low n (gap_of n v) (2 ^ k) (omega arith)))

pub wider_above : (n w v : ℕ) → n ≤ w → v < 2 ^ n → reduced w (number_at n false v) ≡ v
wider_above n w v wider low =
    let more : 2 ^ n ≤ 2 ^ w = pow_mono wider in mod-eq_of_lt (omega arith)

pub wider_below : (n w v : ℕ) → n ≤ w → v < 2 ^ n →
    reduced w (number_at n true v) ≡ 2 ^ w - 1 - (2 ^ n - 1 - v)
wider_below n w v wider low =
    let more : 2 ^ n ≤ 2 ^ w = pow_mono wider in
    ap (reduced w) (below_zero n v low) ∙ ap (λ m. 2 ^ w - 1 - m) (mod-eq_of_lt (omega arith))
