-- The bits of a part of a value, and of a value with a part replaced.
use Rattle.std.proofs.Common.{◌≡◌, ℕ, ◌+◌, ◌-◌, ◌*◌, ◌/◌, ◌%◌, ◌^◌, ◌<◌, ◌≤◌, sym, ap, subst, ◌∙◌}
use Rattle.std.proofs.Common.{arith, mod-lt, mul-le-mul_right}
use Rattle.std.specs.Int.{bit_at}
use Rattle.std.proofs.lemmas.Nat.{pow_pos, pow-add, shr-shr, shr_split, field_of}
use Rattle.std.proofs.lemmas.Nat.Bits.{bit_at_cat_low, bit_at_cat_high, same_from_bits_below}
use Rattle.sv_num.specs.Parts.{bits_between, replaced_bits}

pub low_below : (x k : ℕ) → x % 2 ^ k < 2 ^ k
low_below x k = mod-lt x (pow_pos k)

-- a value and its low bits have the same low bits
pub bit_at_low : (x k i : ℕ) → i < k → bit_at (x % 2 ^ k) i ≡ bit_at x i
bit_at_low x k i below =
    sym (bit_at_cat_low (x / 2 ^ k) k (x % 2 ^ k) i below) ∙ ap (λ z. bit_at z i) (shr_split x k)

-- the bits of a shifted value
pub bit_at_shifted : (x k i : ℕ) → bit_at (x / 2 ^ k) i ≡ bit_at x (k + i)
bit_at_shifted x k i = ap (λ z. z % 2) (shr-shr x k i)

-- a part is made from its bits
pub same_bits_between : (high low x y : ℕ)
    → ((b : ℕ) → low ≤ b → b ≤ high → bit_at x b ≡ bit_at y b)
    → bits_between high low x ≡ bits_between high low y
same_bits_between high low x y same =
    same_from_bits_below (high + 1 - low) (bits_between high low x) (bits_between high low y)
    (low_below (x / 2 ^ low) (high + 1 - low)) (low_below (y / 2 ^ low) (high + 1 - low))
    (λ i below.
    bit_at_low (x / 2 ^ low) (high + 1 - low) i below
    ∙ bit_at_shifted x low i
    ∙ same (low + i) (omega arith) (omega arith)
    ∙ sym (bit_at_shifted y low i)
    ∙ sym (bit_at_low (y / 2 ^ low) (high + 1 - low) i below))

-- two numbers one beside the other
pub beside_below : (a b j k : ℕ) → a < 2 ^ j → b < 2 ^ k → a * 2 ^ k + b < 2 ^ (j + k)
beside_below a b j k a_below b_below =
    let most = mul-le-mul_right {m = a + 1} {n = 2 ^ j} (2 ^ k) (omega arith) in
    let is = pow-add 2 j k in
    let one_more : (a + 1) * 2 ^ k ≡ a * 2 ^ k + 2 ^ k = grind arith in
    omega arith

module _ (j high low value piece : ℕ) (ordered : low ≤ high) where
  -- the signal has so many bits above the part
  abbrev width : ℕ
  width = j + (high + 1)

  abbrev tail : ℕ
  tail = piece % 2 ^ (high + 1 - low) * 2 ^ low + value % 2 ^ low

  tail_below : tail < 2 ^ (high + 1)
  tail_below = subst (λ k. tail < 2 ^ k) (omega arith)
      (beside_below (piece % 2 ^ (high + 1 - low)) (value % 2 ^ low) (high + 1 - low) low
      (low_below piece (high + 1 - low)) (low_below value low))

  abbrev head : ℕ
  head = value % 2 ^ width / 2 ^ (high + 1)

  head_below : head < 2 ^ j
  head_below =
      subst (λ z. z < 2 ^ j) (sym (field_of value j (high + 1)))
      (low_below (value / 2 ^ (high + 1)) j)

  whole_below : replaced_bits width high low value piece < 2 ^ width
  whole_below = beside_below head tail j (high + 1) head_below tail_below

  bit_inside : (b : ℕ) → low ≤ b → b ≤ high →
      bit_at (replaced_bits width high low value piece) b ≡ bit_at piece (b - low)
  bit_inside b from to =
      bit_at_cat_low head (high + 1) tail b (omega arith)
      ∙ bit_at_cat_high (piece % 2 ^ (high + 1 - low)) low (value % 2 ^ low) b
      (low_below value low) from
      ∙ bit_at_low piece (high + 1 - low) (b - low) (omega arith)

  bit_under : (b : ℕ) → b < low →
      bit_at (replaced_bits width high low value piece) b ≡ bit_at value b
  bit_under b under =
      bit_at_cat_low head (high + 1) tail b (omega arith)
      ∙ bit_at_cat_low (piece % 2 ^ (high + 1 - low)) low (value % 2 ^ low) b under
      ∙ bit_at_low value low b under

  bit_over : (b : ℕ) → high < b → b < width →
      bit_at (replaced_bits width high low value piece) b ≡ bit_at value b
  bit_over b over below =
      bit_at_cat_high head (high + 1) tail b tail_below (omega arith)
      ∙ bit_at_shifted (value % 2 ^ width) (high + 1) (b - (high + 1))
      ∙ ap (bit_at (value % 2 ^ width)) (omega arith)
      ∙ bit_at_low value width b below

-- a value with a part replaced has its width
pub replaced_below : (width high low value piece : ℕ) → low ≤ high → high < width →
    replaced_bits width high low value piece < 2 ^ width
replaced_below width high low value piece ordered inside =
    subst (λ w. replaced_bits w high low value piece < 2 ^ w) (omega arith)
    (whole_below (width - (high + 1)) high low value piece ordered)

-- the bits of the part are those of the piece
pub replaced_inside : (width high low value piece b : ℕ) → low ≤ high → high < width → low ≤ b
    → b ≤ high
    → bit_at (replaced_bits width high low value piece) b ≡ bit_at piece (b - low)
replaced_inside width high low value piece b ordered inside from to =
    subst (λ w. bit_at (replaced_bits w high low value piece) b ≡ bit_at piece (b - low))
    (omega arith)
    (bit_inside (width - (high + 1)) high low value piece ordered b from to)

-- the bits under and over the part are those of the value
pub replaced_under : (width high low value piece b : ℕ) → low ≤ high → high < width → b < low
    → bit_at (replaced_bits width high low value piece) b ≡ bit_at value b
replaced_under width high low value piece b ordered inside under =
    subst (λ w. bit_at (replaced_bits w high low value piece) b ≡ bit_at value b) (omega arith)
    (bit_under (width - (high + 1)) high low value piece ordered b under)

pub replaced_over : (width high low value piece b : ℕ) → low ≤ high → high < width → high < b
    → b < width
    → bit_at (replaced_bits width high low value piece) b ≡ bit_at value b
replaced_over width high low value piece b ordered inside over below =
    subst (λ w. bit_at (replaced_bits w high low value piece) b ≡ bit_at value b) (omega arith)
    (bit_over (width - (high + 1)) high low value piece ordered b over (omega arith))
