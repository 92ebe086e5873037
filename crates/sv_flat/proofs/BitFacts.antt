-- What the arithmetic of the code gives for the bits of a value.
use Rattle.std.proofs.Common.{◌≡◌, ℕ, zero, suc, ◌+◌, ◌-◌, ◌*◌, ◌/◌, ◌%◌, ◌^◌, ◌<◌, ◌≤◌, Bool, true}
use Rattle.std.proofs.Common.{false, nat_eq, nat_lt, ltb-true, ltb-false, ⊎_elim, sym}
use Rattle.std.proofs.Common.{ap, subst, ◌∙◌, arith}
use Rattle.std.specs.Prelude.{bit_and}
use Rattle.std.proofs.lemmas.Nat.{and_mask, one_shl, pow_pos}
use Rattle.std.proofs.Math.Nat.{mod-eq_of_lt, div-eq_of_lt}
use Rattle.std.proofs.Math.Pow.{pow_mono}
use Rattle.sv_num.specs.Parts.{extended, replaced_bits}
use Rattle.std.proofs.lemmas.Bool.{eqb-true, eq-eqb}
use Rattle.sv_flat.proofs.LeastSets.{either_way}
use Rattle.sv_flat.proofs.SameRuns.{none_found}
use Rattle.sv_flat.proofs.ReplacedBits.{low_below, beside_below, replaced_below}

-- the low bits of a word, by a mask of ones
pub masked : (value width : ℕ) → width < 64 →
    bit_and value (1 * 2 ^ width % 2 ^ 64 - 1) ≡ value % 2 ^ width
masked value width few =
    ap (λ m. bit_and value (m - 1)) (one_shl width 64 few) ∙ and_mask value width

-- a word has no bits from 64 on
pub whole_word : (value width : ℕ) → value < 2 ^ 64 → 64 ≤ width → value % 2 ^ width ≡ value
whole_word value width low far =
    let more : 2 ^ 64 ≤ 2 ^ width = pow_mono far in
    mod-eq_of_lt (omega arith)

pub shifted_out : (value amount : ℕ) → value < 2 ^ 64 → 64 ≤ amount → value / 2 ^ amount ≡ 0
shifted_out value amount low far =
    let more : 2 ^ 64 ≤ 2 ^ amount = pow_mono far in
    div-eq_of_lt (omega arith)

-- what is above a whole word that fits in one is 0
pub nothing_above : (high low width : ℕ) → high * 2 ^ width + low < 2 ^ 64 → 64 ≤ width →
    high * 2 ^ width + low ≡ low
nothing_above zero low width fits far = omega arith
nothing_above (suc h) low width fits far =
    let more : 2 ^ 64 ≤ 2 ^ width = pow_mono far in
    let some : suc h * 2 ^ width ≡ 2 ^ width + h * 2 ^ width = grind arith in
    absurd (omega arith)

-- ---- other lengths

pub unsigned_extended : (from to value : ℕ) → from ≤ to → value < 2 ^ from →
    extended false from to value ≡ value
unsigned_extended from to value wider low =
    let more : 2 ^ from ≤ 2 ^ to = pow_mono wider in
    mod-eq_of_lt (omega arith)

pub nothing_extended : (signed : Bool) (to value : ℕ) → value < 2 ^ 0 →
    extended signed 0 to value ≡ value
nothing_extended true to zero low = mod-eq_of_lt (pow_pos to)
nothing_extended false to zero low = mod-eq_of_lt (pow_pos to)
nothing_extended signed to (suc v) low = absurd (omega arith)

-- ---- values one beside the other

-- one more value of a width beside so many fits where one more does
pub one_more_fits : (count all width value : ℕ) → all < 2 ^ (count * width) → value < 2 ^ width
    → all * 2 ^ width + value < 2 ^ ((count + 1) * width)
one_more_fits count all width value many one =
    let e : count * width + width ≡ (count + 1) * width = grind arith in
    subst (λ k. all * 2 ^ width + value < 2 ^ k) e
    (beside_below all value (count * width) width many one)

pub fits_in_word : (width value : ℕ) → width ≤ 64 → value < 2 ^ width → value < 2 ^ 64
fits_in_word width value few low =
    let more : 2 ^ width ≤ 2 ^ 64 = pow_mono few in
    omega arith

-- ---- a part replaced

module _ (high low value piece : ℕ) (ordered : low ≤ high) where
  abbrev pub lower : ℕ
  lower = piece % 2 ^ (high - low + 1) * 2 ^ low + value % 2 ^ low

  pub lower_fits : high < 64 → lower < 2 ^ 64
  lower_fits inside =
      let e : high - low + 1 + low ≡ high + 1 = omega arith in
      fits_in_word (high + 1) lower (omega arith) (subst (λ k. lower < 2 ^ k) e
      (beside_below (piece % 2 ^ (high - low + 1)) (value % 2 ^ low) (high - low + 1) low
      (low_below piece (high - low + 1)) (low_below value low)))

  pub replaced_is : (width : ℕ) →
      value % 2 ^ width / 2 ^ (high + 1) * 2 ^ (high + 1) + lower ≡
      replaced_bits width high low value piece
  replaced_is width =
      let e : high - low + 1 ≡ high + 1 - low = omega arith in
      ap (λ k. value % 2 ^ width / 2 ^ (high + 1) * 2 ^ (high + 1)
      + (piece % 2 ^ k * 2 ^ low + value % 2 ^ low)) e

  pub replaced_fits : (width : ℕ) → high < width
      → value % 2 ^ width / 2 ^ (high + 1) * 2 ^ (high + 1) + lower < 2 ^ width
  replaced_fits width inside =
      subst (λ z. z < 2 ^ width) (sym (replaced_is width))
      (replaced_below width high low value piece ordered inside)

-- ---- whether a number fits

pub fits_is : (number width : ℕ) → nat_eq (number % 2 ^ width) number ≡ nat_lt number (2 ^ width)
fits_is number width = ⊎_elim
    (λ yes.
    let below = ltb-true number (2 ^ width) yes in
    eq-eqb (number % 2 ^ width) number (mod-eq_of_lt below) ∙ sym yes)
    (λ no.
    let above = ltb-false number (2 ^ width) no in
    let low = low_below number width in
    none_found (nat_eq (number % 2 ^ width) number) (λ same.
    let is = eqb-true (number % 2 ^ width) number same in absurd (omega arith)) ∙ sym no)
    (either_way (nat_lt number (2 ^ width)))
