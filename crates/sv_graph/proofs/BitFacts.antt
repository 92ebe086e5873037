-- Bits of numbers.
use Rattle.std.proofs.Common.{◌≡◌, ◌≢◌, ◌⊎◌, inl, inr, ℕ, ◌+◌, ◌-◌, ◌*◌, ◌^◌, ◌<◌, ◌≤◌, min, Bool}
use Rattle.std.proofs.Common.{true, false, not, ◌&&◌, ◌||◌, ◌==◌, nat_le, ⊎_elim, refl, sym, ap}
use Rattle.std.proofs.Common.{subst, ◌∙◌, arith, leb-true, add-one, Some, Less, Equal}
use Rattle.std.proofs.Common.{Greater, cond, nat_lt}
use Rattle.std.specs.Prelude.{IsTrue, bit_and, bit_or, unwrap_or}
use Rattle.std.specs.Int.{bit_at, trailing_zeros, w64}
use Rattle.std.specs.Int.Bits.{and_lt}
use Rattle.std.proofs.Math.Nat.{pow-suc, pow-le-pow_right}
use Rattle.std.proofs.lemmas.Nat.Bits.{bit_at_and, bit_at-lt, bit_at-zero, bit_at-trailing_zeros}
use Rattle.std.proofs.lemmas.Nat.Bits.{bit_at_mask_inside, bit_at_mask_below, bit_at_mask_above}
use Rattle.std.proofs.lemmas.Bool.{false≢true, eqb-true, eq-eqb, and_from}
use Rattle.sv_flat.proofs.LeastSets.{either_way}
use Rattle.sv_flat.proofs.Depths.{first_of, second_of}
use Rattle.std.proofs.lemmas.Bool.Decides.{nat_tests}
use Rattle.std.specs.Ordering.{nat_cmp, is_eq}
use Rattle.std.specs.BTreeMap as tree
use Rattle.std.specs.BTreeMap.{BTreeMap}
use Rattle.sv_lattice.proofs.TableLemmas.{or_test, on_bits}
use Rattle.sv_graph.specs.BitSets.{is_set, SharesBit}

pub and_test : (a b k : ℕ) → is_set (bit_and a b) k ≡ (is_set a k && is_set b k)
and_test a b k =
    ap (λ n. n == 1) (bit_at_and a b k)
    ∙ on_bits min ◌&&◌ refl refl refl refl (bit_at a k) (bit_at b k) (bit_at-lt a k) (bit_at-lt b k)

-- ---- a run of ones

pub le_or : (a b : ℕ) → (a ≤ b) ⊎ (b < a)
le_or a b =
    ⊎_elim (λ h. inl (leb-true a b h)) (λ h.
    inr (grind (arith, nat_tests, h))) (either_way (nat_le a b))

below_or : (b high : ℕ) → (b < high + 1) ⊎ (high + 1 ≤ b)
below_or b high = ⊎_elim (λ h. inl (omega arith)) (λ h. inr (omega arith)) (le_or b high)

both : (low high b : ℕ) → low ≤ b → b < high + 1 → (nat_le low b && nat_le b high) ≡ true
both low high b l h =
    and_from (nat_le low b) (nat_le b high) (grind (arith, nat_tests)) (grind (arith, nat_tests))

below_low : (low high b : ℕ) → b < low → (nat_le low b && nat_le b high) ≡ false
below_low low high b l = grind (arith, nat_tests)

above_high : (low high b : ℕ) → high + 1 ≤ b → (nat_le low b && nat_le b high) ≡ false
above_high low high b h = grind (arith, nat_tests)

abbrev run : (low high : ℕ) → ℕ
run low high = 2 ^ (high + 1) - 2 ^ low

run_at : (low high b : ℕ) → (low ≤ b) ⊎ (b < low) → (b < high + 1) ⊎ (high + 1 ≤ b)
    → is_set (run low high) b ≡ (nat_le low b && nat_le b high)
run_at low high b (inl l) (inl h) =
    eq-eqb (bit_at (run low high) b) 1 (bit_at_mask_inside low (high + 1) b l h)
    ∙ sym (both low high b l h)
run_at low high b (inr l) h =
    ap (λ n. n == 1) (bit_at_mask_below low (high + 1) b l) ∙ sym (below_low low high b l)
run_at low high b (inl l) (inr h) =
    ap (λ n. n == 1) (bit_at_mask_above low (high + 1) b h) ∙ sym (above_high low high b h)

pub run_has : (low high b : ℕ) → is_set (run low high) b ≡ (nat_le low b && nat_le b high)
run_has low high b = run_at low high b (le_or low b) (below_or b high)

-- a power of two and the same power less a smaller one
pub run_is : (low high : ℕ) → low ≤ high → 2 ^ high - 2 ^ low + 2 ^ high ≡ run low high
run_is low high h =
    let more = pow-le-pow_right {n = 2} (omega arith) h in
    let two : 2 ^ (high + 1) ≡ 2 ^ high * 2 = rw add-one (pow-suc 2 high) in
    omega (arith, more, two)

-- ---- bits in common

one_set : (n : ℕ) → 0 < n → n < 2 ^ 64 → (k : ℕ) × IsTrue (is_set n k)
one_set n some few =
    let found = bit_at-trailing_zeros w64 n some few in
    (trailing_zeros w64 n, eq-eqb (bit_at n (trailing_zeros w64 n)) 1 found.1)

pub common_bit : (a b : ℕ) → a < 2 ^ 64 → b < 2 ^ 64 → IsTrue (not (bit_and a b == 0)) →
    SharesBit a b
common_bit a b p q h =
    let some : bit_and a b ≢ 0 = λ e. false≢true (sym (ap not (eq-eqb (bit_and a b) 0 e)) ∙ h) in
    let found = one_set (bit_and a b) (omega (arith, some)) (and_lt 64 a b p q) in
    let two = subst IsTrue (and_test a b found.0) found.1 in (
      found.0,
      first_of (is_set a found.0) (is_set b found.0) two,
      second_of (is_set a found.0)
          (is_set b found.0) two,
    )

pub bit_in_common : (a b : ℕ) → SharesBit a b → IsTrue (not (bit_and a b == 0))
bit_in_common a b (k, p, q) =
    let two = and_test a b k ∙ and_from (is_set a k) (is_set b k) p q in
    ⊎_elim
    (λ e.
    absurd (false≢true (sym (ap (λ n. is_set n k) (eqb-true (bit_and a b) 0 e)
    ∙ ap (λ n. n == 1) (bit_at-zero k)) ∙ two)))
    (λ f. ap not f)
    (either_way (bit_and a b == 0))

same_number : (n : ℕ) → (n == n) ≡ true
same_number n = eq-eqb n n refl

or_none : (t : Bool) → (t || false) ≡ t
or_none true = refl
or_none false = refl

differ : (key s : ℕ) → (key == s) ≡ false → tree.is_at (nat_cmp key) s ≡ false
differ key s h =
    elim (nat_lt key s) as (λ l. is_eq (cond l Less (cond (key == s) Equal Greater)) ≡ false) [
      | true ↦ refl
      | false ↦ ap (λ t. is_eq (cond t Equal Greater)) h
    ]

-- ---- a map of numbers with one more

module _ (old new : BTreeMap ℕ ℕ) (key bits mask : ℕ)
    (gains : tree.Updates nat_cmp old new key (Some bits))
    (is : bits ≡ bit_or (unwrap_or (tree.get nat_cmp old key) 0) mask) where
  at_key : (b : ℕ) → is_set (unwrap_or (tree.get nat_cmp new key) 0) b
      ≡ (is_set (unwrap_or (tree.get nat_cmp old key) 0) b || is_set mask b)
  at_key b =
      ap (λ o. is_set (unwrap_or o 0) b) gains.1 ∙ ap (λ n. is_set n b) is
      ∙ or_test (unwrap_or (tree.get nat_cmp old key) 0) mask b

  at_other : (s b : ℕ) → (key == s) ≡ false →
      is_set (unwrap_or (tree.get nat_cmp new s) 0) b ≡
      is_set (unwrap_or (tree.get nat_cmp old s) 0) b
  at_other s b other = ap (λ o. is_set (unwrap_or o 0) b) (gains.2 s (differ key s other))

  pub gained : (s b : ℕ) → is_set (unwrap_or (tree.get nat_cmp new s) 0) b
      ≡ (is_set (unwrap_or (tree.get nat_cmp old s) 0) b || ((key == s) && is_set mask b))
  gained s b = ⊎_elim
      (λ same. subst (λ z.
      is_set (unwrap_or (tree.get nat_cmp new z) 0) b ≡
      (is_set (unwrap_or (tree.get nat_cmp old z) 0) b || ((key == z) && is_set mask b)))
      (eqb-true key s same)
      (at_key b ∙ ap (λ t.
      is_set (unwrap_or (tree.get nat_cmp old key) 0) b
      || (t && is_set mask b)) (sym (same_number key))))
      (λ other. at_other s b other
      ∙ sym (ap (λ t. is_set (unwrap_or (tree.get nat_cmp old s) 0) b || (t && is_set mask b))
      other ∙ or_none (is_set (unwrap_or (tree.get nat_cmp old s) 0) b)))
      (either_way (key == s))

-- ---- answers

pub same_answer : (a b : Bool) → (IsTrue a → IsTrue b) → (IsTrue b → IsTrue a) → a ≡ b
same_answer true b f g = sym (f refl)
same_answer false true f g = g refl
same_answer false false f g = refl
