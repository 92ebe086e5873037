-- The clocked processes in ascending order, and in descending order, are orders.
use Rattle.std.proofs.Common.{◌≡◌, ℕ, zero, suc, ◌+◌, ◌%◌, ◌<◌, ◌≤◌, Bool, cond, ◌==◌}
use Rattle.std.proofs.Common.{◌&&◌, nat_lt, lt-ltb, List, ⊎_elim, refl, sym, ap, subst, ◌∙◌}
use Rattle.std.proofs.Common.{arith, eq-or-lt_of_le, zero-add}
use Rattle.std.specs.Prelude.{IsTrue, reverse}
use Rattle.std.specs.List.{list_all, range_with_len}
use Rattle.std.specs.List.Sorted.{IsPermutation}
use Rattle.std.proofs.lemmas.Bool.{eqb-true, eq-eqb}
use Rattle.std.proofs.lemmas.List.Elements.{All-contains}
use Rattle.std.proofs.lemmas.List.Sorted.{IsPermutation-refl, IsPermutation-reverse}
use Rattle.std.proofs.lemmas.List.Sorted.{Contains-permutation, IsPermutation-sym}
use Rattle.std.proofs.lemmas.List.Sorted.{sum_by-IsPermutation}
use Rattle.sv_flat.specs.Design.{FlatDesign}
use Rattle.sv_flat.specs.Schedules.{is_order, clocked_count, tick_order}
use Rattle.sv_flat.proofs.AdmittedFacts.{and_true}
use Rattle.sv_flat.proofs.LeastSets.{either_way}
use Rattle.sv_flat.proofs.SameRuns.{none_found}
use Rattle.sv_event.proofs.QuietFacts.{all_pass}
use Rattle.sv_event.proofs.RoundFacts.{range_is_below}
use Rattle.sv_event.proofs.SeenFacts.{all_in_range}
use Rattle.sv_event.proofs.TickFacts.{count, once, count_cons, count_head}

-- numbers below a range do not stand in it, and each of its own stands once
none_before : (a n k : ℕ) → k < a → count (range_with_len a n) k ≡ 0
none_before a zero k low = refl
none_before a (suc n) k low =
    count_cons k a (range_with_len (a + 1) n)
    ∙ ap (λ b. once b + count (range_with_len (a + 1) n) k)
    (none_found (a == k) (λ same. let is = eqb-true a k same in absurd (omega (arith, is, low))))
    ∙ zero-add (count (range_with_len (a + 1) n) k)
    ∙ none_before (a + 1) n k (omega (arith, low))

once_in_range : (a n k : ℕ) → a ≤ k → k < a + n → count (range_with_len a n) k ≡ 1
once_in_range a zero k low high = absurd (omega (arith, low, high))
once_in_range a (suc n) k low high = ⊎_elim
    (λ same. subst (λ m. count (range_with_len a (suc n)) m ≡ 1) same
    (count_head a (range_with_len (a + 1) n)
    ∙ ap (λ m. 1 + m) (none_before (a + 1) n a (omega arith))))
    (λ more.
    count_cons k a (range_with_len (a + 1) n)
    ∙ ap (λ b. once b + count (range_with_len (a + 1) n) k)
    (none_found (a == k) (λ same. let is = eqb-true a k same in absurd (omega (arith, is, more))))
    ∙ zero-add (count (range_with_len (a + 1) n) k)
    ∙ once_in_range (a + 1) n k (omega (arith, more)) (omega (arith, high)))
    (eq-or-lt_of_le low)

-- a list with the numbers below n in any order has each of them once
permuted_is_order : (n : ℕ) (order : List ℕ) → IsPermutation (range_with_len 0 n) order
    → IsTrue (list_all (λ k. nat_lt k n) order
    && list_all (λ k. count order k == 1) (range_with_len 0 n))
permuted_is_order n order moved =
    let range = range_with_len 0 n in
    and_true (list_all (λ k. nat_lt k n) order) (list_all (λ k. count order k == 1) range)
    (all_pass (λ k. nat_lt k n) order (λ k at.
    lt-ltb k n (All-contains (λ m. m < n) range k (range_is_below n)
    (Contains-permutation order range k (IsPermutation-sym range order moved) at))))
    (all_in_range (λ k. count order k == 1) 0 n (λ k low high.
    eq-eqb (count order k) 1
    (sum_by-IsPermutation (λ m. once (m == k)) range order moved ∙ once_in_range 0 n k low high)))

-- the order of each cycle is one
pub tick_order_is_order : (design : FlatDesign) (cycle : ℕ) →
    IsTrue (is_order design (tick_order design cycle))
tick_order_is_order design cycle =
    let n = clocked_count design in
    let range = range_with_len 0 n in
    let chosen = λ (b : Bool). IsTrue (is_order design (cond b range (reverse range))) in
    ⊎_elim
    (λ even. subst chosen (sym even) (permuted_is_order n range (IsPermutation-refl range)))
    (λ odd. subst chosen (sym odd)
    (permuted_is_order n (reverse range) (IsPermutation-reverse range)))
    (either_way (cycle % 2 == 0))
