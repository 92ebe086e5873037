-- The clocks of a design in signal order, and the first of them that passes a test.
use Rattle.std.proofs.Common.{◌≡◌, ℕ, zero, suc, ◌+◌, ◌<◌, ◌≤◌, Bool, true, false, cond, ◌&&◌, ◌||◌}
use Rattle.std.proofs.Common.{List, ◌∷◌, length, Some, None, ⊎_elim, refl, sym, ap}
use Rattle.std.proofs.Common.{subst, ◌∙◌, arith, eq-or-lt_of_le}
use Rattle.std.specs.Prelude.{IsTrue, IsFalse, filter, find}
use Rattle.std.specs.List.{list_any, range_with_len}
use Rattle.std.proofs.lemmas.Bool.{false≢true}
use Rattle.sv_flat.specs.Clocks.{is_edge, makes_clock, clocks, is_clock}
use Rattle.sv_flat.specs.Design.{FlatDesign}
use Rattle.sv_flat.specs.Processes.{signals_that}
use Rattle.sv_flat.specs.Sets.{holds, those, with_all_brought}
use Rattle.sv_flat.proofs.LeastSets.{in_those, those_pass, holds-from_Contains}
use Rattle.sv_flat.proofs.LeastSets.{Contains-from_holds}
use Rattle.sv_rules.proofs.TableFacts.{filter_within}

-- ---- sets in order

agree : (a b : Bool) → (IsTrue a → IsTrue b) → (IsTrue b → IsTrue a) → a ≡ b
agree true b there back = sym (there refl)
agree false true there back = absurd (false≢true (back refl))
agree false false there back = refl

kept_same : (n : ℕ) (test : ℕ → Bool) → those n test ≡ those n (holds (those n test))
kept_same n test = filter_within test (holds (those n test)) 0 n (λ k below.
    agree (test k) (holds (those n test) k)
    (λ passes. holds-from_Contains (those n test) k (in_those n test k (omega arith) passes))
    (λ has. those_pass n test k (Contains-from_holds (those n test) k has)))

in_order : (n : ℕ) (brings : ℕ → ℕ → Bool) (test : ℕ → Bool) (times : ℕ)
    → with_all_brought n brings (those n test) times ≡
    those n (holds (with_all_brought n brings (those n test) times))
in_order n brings test zero = kept_same n test
in_order n brings test (suc times) =
    kept_same n (λ k. holds (with_all_brought n brings (those n test) times) k
    || list_any (λ m. brings m k) (with_all_brought n brings (those n test) times))

pub clocks_in_order : (design : FlatDesign) → clocks design ≡ signals_that design (is_clock design)
clocks_in_order design = in_order (length design.signals) (makes_clock design) (is_edge design)
    (length design.signals)

-- ---- the first one

module _ (p q : ℕ → Bool) where
  here : (a : ℕ) (xs : List ℕ) (b : Bool) → IsTrue b → IsTrue (q a) →
      find q (cond b (a ∷ xs) xs) ≡ Some a
  here a xs true h k = ap (λ c. cond c (Some a) (find q xs)) k
  here a xs false h k = absurd (false≢true h)

  not_here : (a : ℕ) (xs : List ℕ) (b : Bool) → IsFalse (b && q a) →
      find q (cond b (a ∷ xs) xs) ≡ find q xs
  not_here a xs true h = ap (λ c. cond c (Some a) (find q xs)) h
  not_here a xs false h = refl

  -- neither passes both tests below a bound
  abbrev pub NoneBelow : ℕ → Type 0
  NoneBelow i = (k : ℕ) → k < i → IsFalse (p k && q k)

  first_from : (a n i : ℕ) → a ≤ i → i < a + n → NoneBelow i → IsTrue (p i) → IsTrue (q i)
      → find q (filter p (range_with_len a n)) ≡ Some i
  first_from a zero i low high none passes also = absurd (omega arith)
  first_from a (suc n) i low high none passes also = ⊎_elim
      (λ e. here a (filter p (range_with_len (a + 1) n)) (p a)
      (subst (λ k. IsTrue (p k)) (sym e) passes) (subst (λ k. IsTrue (q k)) (sym e) also)
      ∙ ap Some e)
      (λ more. not_here a (filter p (range_with_len (a + 1) n)) (p a) (none a (omega arith))
      ∙ first_from (a + 1) n i (omega arith) (omega arith) none passes also)
      (eq-or-lt_of_le low)

  none_from : (a n : ℕ) → NoneBelow (a + n) → find q (filter p (range_with_len a n)) ≡ None
  none_from a zero none = refl
  none_from a (suc n) none =
      not_here a (filter p (range_with_len (a + 1) n)) (p a) (none a (omega arith))
      ∙ none_from (a + 1) n (λ k below. none k (omega arith))

  pub first_of_both : (n i : ℕ) → i < n → NoneBelow i → IsTrue (p i) → IsTrue (q i) →
      find q (filter p (range_with_len 0 n)) ≡ Some i
  first_of_both n i below none passes also =
      first_from 0 n i (omega arith) (omega arith) none passes also

  pub none_of_both : (n : ℕ) → NoneBelow n → find q (filter p (range_with_len 0 n)) ≡ None
  none_of_both n none = none_from 0 n (λ k below. none k (omega arith))
