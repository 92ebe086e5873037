-- A list is looked through for each of some numbers.
use Rattle.std.proofs.Common.{◌≡◌, ℕ, zero, suc, ◌+◌, ◌-◌, ◌<◌, ◌≤◌, Bool, true, false, cond, ◌==◌}
use Rattle.std.proofs.Common.{List, [], ◌∷◌, length, take, get_or, ⊎_elim, refl, sym, ap}
use Rattle.std.proofs.Common.{subst, ◌∙◌, arith, eq-or-lt_of_le, replicate, ◌⊎◌, inl, inr, nat_lt}
use Rattle.std.proofs.Common.{ltb-true, ltb-false}
use Rattle.std.specs.Prelude.{IsTrue, IsFalse, count_by, slice_index_or}
use Rattle.std.specs.List.{list_all, range_with_len}
use Rattle.std.proofs.lemmas.Bool.{eqb-true, eq-eqb, false≢true}
use Rattle.std.proofs.lemmas.List.{take-replicate, length-replicate}
use Rattle.std.proofs.lemmas.List.Sums.{sum_by_more, sum_by-take-le, AllPass-from_list_all}
use Rattle.sv_flat.proofs.AdmittedFacts.{and_true}
use Rattle.sv_flat.proofs.Depths.{first_of, second_of}
use Rattle.sv_flat.proofs.LeastSets.{either_way}
use Rattle.sv_flat.proofs.SameRuns.{none_found}
use Rattle.sv_event.specs.Seen.{times_seen, stands_once}

-- ---- tests of all numbers of a range

pub all_in_range : (test : ℕ → Bool) (a n : ℕ)
    → ((k : ℕ) → a ≤ k → k < a + n → IsTrue (test k)) → IsTrue (list_all test (range_with_len a n))
all_in_range test a zero each = refl
all_in_range test a (suc n) each = and_true (test a) (list_all test (range_with_len (a + 1) n))
    (each a (omega arith) (omega arith))
    (all_in_range test (a + 1) n (λ k low high. each k (omega arith) (omega arith)))

pub in_range_all : (test : ℕ → Bool) (a n : ℕ) → IsTrue (list_all test (range_with_len a n))
    → (k : ℕ) → a ≤ k → k < a + n → IsTrue (test k)
in_range_all test a zero all k low high = absurd (omega arith)
in_range_all test a (suc n) all k low high = ⊎_elim
    (λ same. subst (λ m. IsTrue (test m)) same
    (first_of (test a) (list_all test (range_with_len (a + 1) n)) all))
    (λ more. in_range_all test (a + 1) n
    (second_of (test a) (list_all test (range_with_len (a + 1) n)) all) k (omega arith)
    (omega arith))
    (eq-or-lt_of_le low)

-- ---- blocks of numbers

-- where a block of the numbers does not pass, not all do
pub block_fails : (test : ℕ → Bool) (count first size : ℕ) (b : Bool) → first + size ≤ count
    → b ≡ list_all test (range_with_len first size) → IsFalse b
    → false ≡ list_all test (range_with_len 0 count)
block_fails test count first size b inside is fails =
    sym (none_found (list_all test (range_with_len 0 count)) (λ all.
    false≢true (sym fails ∙ is ∙ all_in_range test first size (λ k low high.
    in_range_all test 0 count all k (omega arith) (omega arith)))))

-- where it does, the numbers so far do
pub block_passes : (test : ℕ → Bool) (first size : ℕ) (b : Bool)
    → b ≡ list_all test (range_with_len first size) → IsTrue b
    → ((k : ℕ) → k < first → IsTrue (test k)) → (k : ℕ) → k < first + size → IsTrue (test k)
block_passes test first size b is passes before k high = ⊎_elim
    (λ low. before k low)
    (λ past. in_range_all test first size (sym is ∙ passes) k past high)
    (below_or_past k first)
  where
    below_or_past : (k first : ℕ) → (k < first) ⊎ (first ≤ k)
    below_or_past k first = ⊎_elim (λ below. inl (ltb-true k first below))
        (λ past. inr (ltb-false k first past)) (either_way (nat_lt k first))

pub all_pass_below : (test : ℕ → Bool) (count first : ℕ) → count ≤ first
    → ((k : ℕ) → k < first → IsTrue (test k)) → true ≡ list_all test (range_with_len 0 count)
all_pass_below test count first past each =
    sym (all_in_range test 0 count (λ k low high. each k (omega arith)))

-- ---- marks

-- none is marked in a front of a table without marks
pub unmarked : (n m : ℕ) → n ≤ m
    → take n (replicate m false) ≡ replicate (length (take n (replicate m false))) false
unmarked n m within =
    subst (λ (xs : List Bool). xs ≡ replicate (length xs) false)
    (sym (take-replicate n m false within))
    (ap (λ k. replicate k false) (sym (length-replicate n false)))

abbrev once : Bool → ℕ
once b = cond b 1 0

unseen : (b : Bool) → IsTrue b → once b ≡ 1
unseen b h = ap once h

-- a number that is found again stands more than once
pub seen_again : (order : List ℕ) (first i n : ℕ) (seen : List Bool) → i < length order
    → first ≤ get_or order i 0 → get_or order i 0 - first < n
    → IsTrue (slice_index_or seen (get_or order i 0 - first) false)
    → ((j : ℕ) → j < n → count_by (λ m. m == first + j) (take i order) ≡ times_seen seen j)
    → false ≡ list_all (stands_once order) (range_with_len first n)
seen_again order first i n seen inside low high was counts =
    let k = get_or order i 0 in
    let test = λ (m : ℕ). once (m == k) in
    let is : first + (k - first) ≡ k = omega (arith, low) in
    let before = subst (λ v. count_by (λ m. m == v) (take i order) ≡ times_seen seen (k - first)) is
    (counts (k - first) high) ∙ unseen (slice_index_or seen (k - first) false) was in
    let more = sum_by_more test order i 0 inside in
    let here : once (k == k) ≡ 1 = unseen (k == k) (eq-eqb k k refl) in
    let whole = sum_by-take-le test order (i + 1) in
    sym (none_found (list_all (stands_once order) (range_with_len first n)) (λ all.
    let stands = eqb-true (count_by (λ m. m == k) order) 1
    (in_range_all (stands_once order) first n all k low (omega (arith, high, low))) in
    absurd (omega (arith, before, more, here, whole, stands))))

marked_once : (b : Bool) → once b ≡ 1 → IsTrue b
marked_once true h = refl
marked_once false h = absurd (omega (arith, h))

-- each stands once where each was seen
pub all_seen : (order : List ℕ) (first n : ℕ) (seen : List Bool) (b : Bool) → length seen ≡ n
    → ((j : ℕ) → j < n → count_by (λ m. m == first + j) order ≡ times_seen seen j)
    → b ≡ list_all (λ s. s) seen → b ≡ list_all (stands_once order) (range_with_len first n)
all_seen order first n seen true size counts is =
    sym (all_in_range (stands_once order) first n (λ k low high.
    let back : first + (k - first) ≡ k = omega (arith, low) in
    let j : k - first < n = omega (arith, low, high) in
    subst (λ v. IsTrue (count_by (λ m. m == v) order == 1)) back
    (eq-eqb (count_by (λ m. m == first + (k - first)) order) 1
    (counts (k - first) j
    ∙ unseen (slice_index_or seen (k - first) false)
    (AllPass-from_list_all (λ (s : Bool). s) seen (sym is) (k - first) false
    (subst (λ l. k - first < l) (sym size) j))))))
all_seen order first n seen false size counts is =
    sym (none_found (list_all (stands_once order) (range_with_len first n)) (λ all.
    false≢true (is ∙ marked seen (λ j inside.
    let below = subst (λ l. j < l) size inside in
    marked_once (slice_index_or seen j false)
    (sym (counts j below)
    ∙ eqb-true (count_by (λ m. m == first + j) order) 1
    (in_range_all (stands_once order) first n all (first + j) (omega arith)
    (omega (arith, below))))))))
  where
    marked : (seen : List Bool) → ((j : ℕ) → j < length seen → IsTrue (slice_index_or seen j false))
        → IsTrue (list_all (λ s. s) seen)
    marked [] each = refl
    marked (s ∷ seen) each = and_true s (list_all (λ z. z) seen) (each 0 (omega arith))
        (marked seen (λ j inside. each (suc j) (omega (arith, inside))))
