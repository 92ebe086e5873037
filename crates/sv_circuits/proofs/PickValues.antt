-- The bit that a circuit picks by an index is the one that the index names.
use Rattle.std.proofs.Common.{◌≡◌, ℕ, zero, suc, ◌+◌, ◌-◌, ◌*◌, ◌/◌, ◌%◌, ◌^◌, ◌<◌, ◌≤◌, Bool, true}
use Rattle.std.proofs.Common.{false, leb, cond, List, [], ◌∷◌, take, length, refl, sym, ap}
use Rattle.std.proofs.Common.{◌∙◌, arith, if◌then◌else◌, length-take, ◌⊎◌, inl}
use Rattle.std.proofs.Common.{inr, ⊎_elim}
use Rattle.std.specs.Prelude.{slice_index_or, pos}
use Rattle.std.specs.Int.{bit_at}
use Rattle.std.proofs.Math.Pow.{pow_mono}
use Rattle.std.proofs.lemmas.Nat.Bits.{bit_at_lowest, bit_at-suc}
use Rattle.std.proofs.lemmas.Bool.{cases_lt, lt-ltb, le-ltb, eq-eqb, ne_eqb, leb-true, leb-false}
use Rattle.sv_num.specs.Vectors.{truth, as_number}
use Rattle.sv_num.specs.Parts.{bit_or_zero}
use Rattle.sv_num.proofs.NumberLemmas.{number_at, below_zero}
use Rattle.sv_circuits.specs.Operators.{number_count}
use Rattle.sv_circuits.proofs.Picks.{is_number_bits, picked_bits}
use Rattle.sv_circuits.proofs.BitNumbers.{number, number_low}
use Rattle.sv_circuits.proofs.BitTests.{is_number_tells}

-- ---- bits of a list

low_bit : (b : Bool) (n : ℕ) → (truth b + 2 * n) % 2 ≡ truth b
low_bit true n = omega arith
low_bit false n = omega arith

half : (b : Bool) (n : ℕ) → (truth b + 2 * n) / 2 ≡ n
half true n = omega arith
half false n = omega arith

pub index_bit : (bs : List Bool) (i : ℕ) → i < length bs →
    truth (slice_index_or bs i false) ≡ bit_at (number bs) i
index_bit [] i h = absurd (omega (arith, h))
index_bit (b ∷ bs) zero h =
    sym (bit_at_lowest (number (b ∷ bs)) ∙ low_bit b (number bs))
index_bit (b ∷ bs) (suc i) h =
    index_bit bs i (omega (arith, h))
    ∙ sym (bit_at-suc (number (b ∷ bs)) i ∙ ap (λ n. bit_at n i) (half b (number bs)))

take_index : (k : ℕ) (bs : List Bool) (i : ℕ) → i < k →
    slice_index_or (take k bs) i false ≡ slice_index_or bs i false
take_index zero bs i h = absurd (omega (arith, h))
take_index (suc k) [] i h = refl
take_index (suc k) (b ∷ bs) zero h = refl
take_index (suc k) (b ∷ bs) (suc i) h = take_index k bs i (omega (arith, h))

-- ---- picked bits

picked_outside : (index : List Bool) (r : Bool) (j : ℕ) (bs : List Bool) →
    j + length bs ≤ 2 ^ length index →
    (number index < j) ⊎ (j + length bs ≤ number index) → picked_bits index r j bs ≡ r
picked_outside index r j [] fits out = refl
picked_outside index r j (b ∷ bs) fits out =
    let low : j < 2 ^ length index = omega (arith, fits) in
    let apart : is_number_bits index j ≡ false =
    is_number_tells index j low ∙ ne_eqb (number index) j (λ e.
    ⊎_elim (λ l. absurd (omega (arith, l, e))) (λ r. absurd (omega (arith, r, e))) out) in
    let next : (number index < suc j) ⊎ (suc j + length bs ≤ number index) =
    ⊎_elim (λ l. inl (omega (arith, l))) (λ r. inr (omega (arith, r))) out in
    ap (λ t. picked_bits index (if t then b else r) (suc j) bs) apart
    ∙ picked_outside index r (suc j) bs (omega (arith, fits)) next

picked_inside : (index : List Bool) (r : Bool) (j : ℕ) (bs : List Bool) →
    j + length bs ≤ 2 ^ length index → (i : ℕ) → number index ≡ j + i → i < length bs →
    picked_bits index r j bs ≡ slice_index_or bs i false
picked_inside index r j [] fits i e h = absurd (omega (arith, h))
picked_inside index r j (b ∷ bs) fits zero e h =
    let low : j < 2 ^ length index = omega (arith, fits) in
    let here : is_number_bits index j ≡ true =
    is_number_tells index j low ∙ eq-eqb (number index) j (omega (arith, e)) in
    ap (λ t. picked_bits index (if t then b else r) (suc j) bs) here
    ∙ picked_outside index b (suc j) bs (omega (arith, fits)) (inl (omega (arith, e)))
picked_inside index r j (b ∷ bs) fits (suc i) e h =
    let low : j < 2 ^ length index = omega (arith, fits) in
    let apart : is_number_bits index j ≡ false =
    is_number_tells index j low
    ∙ ne_eqb (number index) j (λ f. absurd (omega (arith, e, f))) in
    ap (λ t. picked_bits index (if t then b else r) (suc j) bs) apart
    ∙ picked_inside index r (suc j) bs (omega (arith, fits)) i (omega (arith, e)) (omega (arith, h))

-- how many numbers from 0 up a type has fit its length
count_fits : (w : ℕ) (signed : Bool) → number_count w signed ≤ 2 ^ w
count_fits w true = pow_mono {i = w - 1} {j = w} (omega arith)
count_fits w false = omega arith

picked_from_0 : (index bs : List Bool) (signed : Bool) →
    0 + length (take (number_count (length index) signed) bs) ≤ 2 ^ length index
picked_from_0 index bs signed =
    let k = number_count (length index) signed in
    omega (arith, length-take k bs, count_fits (length index) signed)

-- where the index is a number below the count
picked_below : (index bs : List Bool) (signed : Bool) →
    number index < number_count (length index) signed →
    truth (picked_bits index false 0 (take (number_count (length index) signed) bs))
    ≡ bit_or_zero (length bs) (number bs) (pos (number index))
picked_below index bs signed low = by_size (cases_lt (number index) (length bs))
  where
    by_size : (number index < length bs) ⊎ (length bs ≤ number index) →
        truth (picked_bits index false 0 (take (number_count (length index) signed) bs))
        ≡ bit_or_zero (length bs) (number bs) (pos (number index))
    by_size (inl h) =
        let k = number_count (length index) signed in
        let i = number index in
        let inside : i < length (take k bs) = omega (arith, length-take k bs, low, h) in
        ap truth (picked_inside index false 0 (take k bs) (picked_from_0 index bs signed) i
        (omega arith) inside ∙ take_index k bs i low)
        ∙ index_bit bs i h
        ∙ sym (ap (λ t. cond t (bit_at (number bs) i) 0) (lt-ltb i (length bs) h))
    by_size (inr h) =
        let k = number_count (length index) signed in
        let i = number index in
        let outside : 0 + length (take k bs) ≤ i = omega (arith, length-take k bs, h) in
        ap truth (picked_outside index false 0 (take k bs) (picked_from_0 index bs signed)
        (inr outside))
        ∙ sym (ap (λ t. cond t (bit_at (number bs) i) 0) (le-ltb i (length bs) h))

pub picked_value : (index bs : List Bool) (signed : Bool) → 1 ≤ length index →
    truth (picked_bits index false 0 (take (number_count (length index) signed) bs))
    ≡ bit_or_zero (length bs) (number bs) (as_number (length index) signed (number index))
picked_value index bs false some = picked_below index bs false (number_low index)
picked_value index bs true some = by_sign (leb (2 ^ (length index - 1)) (number index)) refl
  where
    by_sign : (t : Bool) → leb (2 ^ (length index - 1)) (number index) ≡ t →
        truth (picked_bits index false 0 (take (number_count (length index) true) bs))
        ≡ bit_or_zero (length bs) (number bs) (as_number (length index) true (number index))
    by_sign true e =
        let n = length index in
        let k = number_count n true in
        let most = leb-true (2 ^ (n - 1)) (number index) e in
        let outside : 0 + length (take k bs) ≤ number index =
        omega (arith, length-take k bs, most) in
        ap truth (picked_outside index false 0 (take k bs) (picked_from_0 index bs true)
        (inr outside))
        ∙ sym (ap (bit_or_zero (length bs) (number bs))
        (ap (λ s. number_at n s (number index)) e ∙ below_zero n (number index) (number_low index)))
    by_sign false e =
        let n = length index in
        picked_below index bs true (leb-false (2 ^ (n - 1)) (number index) e)
        ∙ sym (ap (bit_or_zero (length bs) (number bs)) (ap (λ s. number_at n s (number index)) e))
