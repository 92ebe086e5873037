-- Numbers of two values of one length.
use Rattle.std.proofs.Common.{◌≡◌, ℕ, ◌+◌, ◌-◌, ◌*◌, ◌%◌, ◌^◌, ◌<◌, ◌≤◌, leb, true, false, refl, ap}
use Rattle.std.proofs.Common.{◌∙◌, sym, arith}
use Rattle.std.specs.Prelude.{◌+ℤ◌, ◌-ℤ◌, ◌*ℤ◌, unsigned_abs, Bool, not}
use Rattle.std.proofs.Math.Bool.{beq}
use Rattle.std.proofs.Math.Nat.{mod-eq_of_lt, mul_comm}
use Rattle.std.proofs.lemmas.Bool.{and_parts, leb-true}
use Rattle.std.proofs.lemmas.Nat.{pow_pos, pow-add, mul-add-lt, shl_whole}
use Rattle.sv_num.specs.declared.vectors.Bits.{Bits}
use Rattle.sv_num.specs.Vectors.{width_of, is_signed, value_of, is_negative, number_of, reduced}
use Rattle.sv_num.proofs.NumberLemmas.{number_at, sum_is, difference_is, product_is, is_below}
use Rattle.sv_num.proofs.NumberLemmas.{below_is, size_is}

-- whether a value is negative
abbrev pub negative : Bits → Bool
negative a = is_negative (width_of a) (is_signed a) (value_of a)

module _ (a b : Bits) (widths : width_of a ≡ width_of b) where
  -- the second number, at the length of the first
  pub second_at : number_of b ≡ number_at (width_of a) (negative b) (value_of b)
  second_at = ap (λ n. number_at n (negative b) (value_of b)) (sym widths)

  second_low : value_of b < 2 ^ width_of a
  second_low = rw widths b.in_range.2

  -- what is below a power of two where both numbers are
  pub both_low : (op : ℕ → ℕ → ℕ)
      → ((n x y : ℕ) → x < 2 ^ n → y < 2 ^ n → op x y < 2 ^ n)
      → op (value_of a) (value_of b) < 2 ^ width_of a
  both_low op low = low (width_of a) (value_of a) (value_of b) a.in_range.2 second_low

  pub sum_of : reduced (width_of a) (number_of a +ℤ number_of b) ≡
      (value_of a + value_of b) % 2 ^ width_of a
  sum_of =
      ap (λ z. reduced (width_of a) (number_of a +ℤ z)) second_at
      ∙ sum_is (width_of a) (negative a) (negative b) (value_of a) (value_of b) a.in_range.2
      second_low

  pub difference_of : reduced (width_of a) (number_of a -ℤ number_of b) ≡
      (value_of a + (2 ^ width_of a - value_of b)) % 2 ^ width_of a
  difference_of =
      ap (λ z. reduced (width_of a) (number_of a -ℤ z)) second_at
      ∙ difference_is (width_of a) (negative a) (negative b) (value_of a) (value_of b) a.in_range.2
      second_low

  pub product_of : reduced (width_of a) (number_of a *ℤ number_of b) ≡
      value_of a * value_of b % 2 ^ width_of a
  product_of =
      ap (λ z. reduced (width_of a) (number_of a *ℤ z)) second_at
      ∙ product_is (width_of a) (negative a) (negative b) (value_of a) (value_of b) a.in_range.2
      second_low

-- ---- where a number is below 0, and where not

-- a number, where it is known whether it is below 0
pub number_when : (a : Bits) (t : Bool) → negative a ≡ t →
    number_of a ≡ number_at (width_of a) t (value_of a)
number_when a t h = ap (λ s. number_at (width_of a) s (value_of a)) h

pub below_of : (a : Bits) → is_below (number_of a) ≡ negative a
below_of a = below_is (width_of a) (negative a) (value_of a) a.in_range.2

pub negative_some : (a : Bits) → negative a ≡ true → 0 < value_of a
negative_some a h =
    let parts : (is_signed a ≡ true) × (leb (2 ^ (width_of a - 1)) (value_of a) ≡ true) =
    and_parts (is_signed a) (leb (2 ^ (width_of a - 1)) (value_of a)) h in
    omega (arith, leb-true (2 ^ (width_of a - 1)) (value_of a) parts.1, pow_pos (width_of a - 1))

pub size_of : (a : Bits) → negative a ≡ true →
    (2 ^ width_of a - value_of a) % 2 ^ width_of a ≡ unsigned_abs (number_of a)
size_of a h =
    mod-eq_of_lt (omega (arith, negative_some a h, pow_pos (width_of a)))
    ∙ sym (size_is (width_of a) (value_of a) a.in_range.2)
    ∙ ap unsigned_abs (sym (number_when a true h))

pub differ : (p q : Bool) → not (beq p q) ≡ true → p ≡ not q
differ true true h = cc
differ true false h = refl
differ false true h = refl
differ false false h = cc

pub agree : (p q : Bool) → not (beq p q) ≡ false → p ≡ q
agree true true h = refl
agree true false h = cc
agree false true h = cc
agree false false h = refl

-- ---- joins

pub joined_low : (a b j k : ℕ) → a < 2 ^ j → b < 2 ^ k → a * 2 ^ k + b < 2 ^ (j + k)
joined_low a b j k p q =
    let e : 2 ^ (j + k) ≡ 2 ^ k * 2 ^ j = pow-add 2 j k ∙ mul_comm (2 ^ j) (2 ^ k) in
    rw e (mul-add-lt a (2 ^ k) b (2 ^ j) p q)

pub joined_word : (a b j k : ℕ) → a < 2 ^ j → j + k ≤ 64 → a * 2 ^ k % 2 ^ 64 + b ≡ a * 2 ^ k + b
joined_word a b j k p few = ap (λ m. m + b) (shl_whole a j k 64 p few)
