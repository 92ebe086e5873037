-- The least set with some first numbers and what its members bring along has them, is closed, and
-- lies in every closed set.
use Rattle.std.proofs.Common.{◌≡◌, ℕ, zero, suc, ◌+◌, ◌<◌, ◌≤◌, Bool, true, false, cond, not, ◌&&◌}
use Rattle.std.proofs.Common.{◌||◌, ◌==◌, List, [], ◌∷◌, length, ◌⊎◌, inl, inr, ⊎_elim, refl, sym}
use Rattle.std.proofs.Common.{subst, arith, zero-add, ◌∙◌}
use Rattle.std.specs.Prelude.{Contains, filter, IsTrue, IsFalse}
use Rattle.std.specs.List.{list_any, range_with_len}
use Rattle.std.proofs.lemmas.Bool.{false≢true, or_left, or_right, eqb-true, eq-eqb}
use Rattle.std.proofs.lemmas.List.FromFn.{length-range_with_len, get_or-range_with_len}
use Rattle.sv_system.proofs.Lists.{Contains-head, Contains-later, Contains-nil, Contains-cases}
use Rattle.sv_system.proofs.Lists.{Contains-filter}
use Rattle.sv_system.proofs.Ranks.{filter_lt}
use Rattle.sv_flat.specs.Sets.{holds, those, with_all_brought, least_set}

-- ---- tests

pub or_cases : (a b : Bool) → IsTrue (a || b) → IsTrue a ⊎ IsTrue b
or_cases true b h = inl refl
or_cases false b h = inr h

and_both : (a b : Bool) → IsTrue a → IsFalse b → IsTrue (a && not b)
and_both true false h f = refl
and_both true true h f = absurd (false≢true (sym f))
and_both false b h f = absurd (false≢true h)

and_first : (a b : Bool) → IsTrue (a && not b) → IsTrue a
and_first true b h = refl
and_first false b h = absurd (false≢true h)

and_second : (a b : Bool) → IsTrue (a && not b) → IsFalse b
and_second true true h = absurd (false≢true h)
and_second true false h = refl
and_second false b h = absurd (false≢true h)

pub either_way : (b : Bool) → IsTrue b ⊎ IsFalse b
either_way true = inl refl
either_way false = inr refl

-- ---- sets

module _ {X : Type 0} (test : X → Bool) where
  -- a member that passes a test answers whether some member does
  pub some_from : (set : List X) (k : X) → Contains set k → IsTrue (test k) →
      IsTrue (list_any test set)
  some_from [] k at passes = absurd (Contains-nil k at)
  some_from (m ∷ set) k at passes = ⊎_elim
      (λ e. or_left (test m) (list_any test set) (subst (λ z. IsTrue (test z)) (sym e) passes))
      (λ inside. or_right (test m) (list_any test set) (some_from set k inside passes))
      (Contains-cases m set k at)

  -- and where some member does there is one
  pub from_some : (set : List X) → IsTrue (list_any test set) →
      (k : X) × Contains set k × IsTrue (test k)
  from_some [] h = absurd (false≢true h)
  from_some (m ∷ set) h = ⊎_elim
      (λ here. (m, Contains-head m set, here))
      (λ later. let found = from_some set later in
      (found.0, Contains-later m set found.0 found.1, found.2))
      (or_cases (test m) (list_any test set) h)

-- the test of membership and membership
pub holds-from_Contains : (set : List ℕ) (k : ℕ) → Contains set k → IsTrue (holds set k)
holds-from_Contains set k at = some_from (λ m. m == k) set k at (eq-eqb k k refl)

pub Contains-from_holds : (set : List ℕ) (k : ℕ) → IsTrue (holds set k) → Contains set k
Contains-from_holds set k h =
    let found = from_some (λ m. m == k) set h in
    subst (Contains set) (eqb-true found.0 k found.2) found.1

pub range_has : (n k : ℕ) → k < n → Contains (range_with_len 0 n) k
range_has n k below = (
  k,
  subst (λ l. k < l) (sym (length-range_with_len 0 n)) below,
  get_or-range_with_len 0 n k k
      below ∙ zero-add k,
)

range_below : (a n k : ℕ) → Contains (range_with_len a n) k → k < a + n
range_below a zero k at = absurd (Contains-nil k at)
range_below a (suc n) k at = ⊎_elim
    (λ e. subst (λ z. z < a + suc n) e (omega arith))
    (λ inside. let below = range_below (a + 1) n k inside in omega arith)
    (Contains-cases a (range_with_len (a + 1) n) k at)

module _ {X : Type 0} (test : X → Bool) where
  kept_cases : (b : Bool) (m : X) (set : List X) (k : X) → Contains (cond b (m ∷ set) set) k →
      (IsTrue b × (m ≡ k)) ⊎ Contains set k
  kept_cases true m set k at =
      ⊎_elim (λ e. inl (refl, e)) (λ inside. inr inside) (Contains-cases m set k at)
  kept_cases false m set k at = inr at

  pub Contains-from_filter : (set : List X) (k : X) → Contains (filter test set) k →
      IsTrue (test k) × Contains set k
  Contains-from_filter [] k at = absurd (Contains-nil k at)
  Contains-from_filter (m ∷ set) k at = ⊎_elim
      (λ here. (
        subst (λ z. IsTrue (test z)) here.1 here.0,
        subst (Contains (m ∷ set)) here.1
            (Contains-head m set),
      ))
      (λ later. let found = Contains-from_filter set k later in
      (found.0, Contains-later m set k found.1))
      (kept_cases (test m) m (filter test set) k at)

pub all_kept : {X : Type 0} (xs : List X) → length (filter (λ x. true) xs) ≡ length xs
all_kept [] = refl
all_kept (x ∷ xs) = omega (arith, all_kept xs)

-- the members of `those` are the numbers below n that pass
pub in_those : (n : ℕ) (test : ℕ → Bool) (k : ℕ) → k < n → IsTrue (test k) →
    Contains (those n test) k
in_those n test k below passes =
    Contains-filter test (range_with_len 0 n) k (range_has n k below) passes

pub those_below : (n : ℕ) (test : ℕ → Bool) (k : ℕ) → Contains (those n test) k → k < n
those_below n test k at =
    let below = range_below 0 n k (Contains-from_filter test (range_with_len 0 n) k at).1 in
    omega arith

pub those_pass : (n : ℕ) (test : ℕ → Bool) (k : ℕ) → Contains (those n test) k → IsTrue (test k)
those_pass n test k at = (Contains-from_filter test (range_with_len 0 n) k at).0

-- ---- the least set

module _ (n : ℕ) (brings : ℕ → ℕ → Bool) (first : List ℕ) (within : (k : ℕ) → Contains first k →
    k < n) where
  -- the set after some steps
  abbrev after : ℕ → List ℕ
  after t = with_all_brought n brings first t

  stays : (t k : ℕ) → k < n → Contains (after t) k → Contains (after (suc t)) k
  stays t k below at =
      in_those n (λ z. holds (after t) z || list_any (λ m. brings m z) (after t)) k below
      (or_left (holds (after t) k) (list_any (λ m. brings m k) (after t))
      (holds-from_Contains (after t) k at))

  brought : (t m k : ℕ) → k < n → Contains (after t) m → IsTrue (brings m k) →
      Contains (after (suc t)) k
  brought t m k below at h =
      in_those n (λ z. holds (after t) z || list_any (λ m. brings m z) (after t)) k below
      (or_right (holds (after t) k) (list_any (λ m. brings m k) (after t))
      (some_from (λ m. brings m k) (after t) m at h))

  -- a member after one more step was one before, or was brought along by one
  came : (t k : ℕ) → Contains (after (suc t)) k →
      Contains (after t) k ⊎ ((m : ℕ) × Contains (after t) m × IsTrue (brings m k))
  came t k at = ⊎_elim
      (λ old. inl (Contains-from_holds (after t) k old))
      (λ new. inr (from_some (λ m. brings m k) (after t) new))
      (or_cases (holds (after t) k) (list_any (λ m. brings m k) (after t))
      (those_pass n (λ z. holds (after t) z || list_any (λ m. brings m z) (after t)) k at))

  all_below : (t k : ℕ) → Contains (after t) k → k < n
  all_below zero k at = within k at
  all_below (suc t) k at =
      those_below n (λ z. holds (after t) z || list_any (λ m. brings m z) (after t)) k at

  -- one more step adds nothing
  abbrev Stable : ℕ → Type 0
  Stable t = (k : ℕ) → Contains (after (suc t)) k → Contains (after t) k

  stable_next : (t : ℕ) → Stable t → Stable (suc t)
  stable_next t stable k at = ⊎_elim
      (λ old. old)
      (λ new. brought t new.0 k (all_below (suc (suc t)) k at) (stable new.0 new.1) new.2)
      (came (suc t) k at)

  -- how many numbers are in the set after some steps
  abbrev count : ℕ → ℕ
  count t = length (filter (holds (after t)) (range_with_len 0 n))

  -- a number below n that one more step adds
  abbrev is_new : ℕ → ℕ → Bool
  is_new t k = holds (after (suc t)) k && not (holds (after t) k)

  none_new : (t : ℕ) → IsFalse (list_any (is_new t) (range_with_len 0 n)) → Stable t
  none_new t none k at = ⊎_elim
      (λ old. Contains-from_holds (after t) k old)
      (λ out.
      absurd (false≢true (sym none
      ∙ some_from (is_new t) (range_with_len 0 n) k (range_has n k (all_below (suc t) k at))
      (and_both (holds (after (suc t)) k) (holds (after t) k)
      (holds-from_Contains (after (suc t)) k at) out))))
      (either_way (holds (after t) k))

  still_holds : (t k : ℕ) → IsTrue (holds (after t) k) → IsTrue (holds (after (suc t)) k)
  still_holds t k old =
      let at = Contains-from_holds (after t) k old in
      holds-from_Contains (after (suc t)) k (stays t k (all_below t k at) at)

  some_new : (t : ℕ) → IsTrue (list_any (is_new t) (range_with_len 0 n)) → count t < count (suc t)
  some_new t some =
      let found = from_some (is_new t) (range_with_len 0 n) some in
      filter_lt (holds (after t)) (holds (after (suc t))) (still_holds t) (range_with_len 0 n)
      found.0 found.1
      (and_second (holds (after (suc t)) found.0) (holds (after t) found.0) found.2)
      (and_first (holds (after (suc t)) found.0) (holds (after t) found.0) found.2)

  -- as many steps as the set has members at most, or a step that added nothing
  grown : (t : ℕ) → Stable t ⊎ (t ≤ count t)
  grown zero = inr (omega arith)
  grown (suc t) = ⊎_elim
      (λ stable. inl (stable_next t stable))
      (λ few. ⊎_elim
      (λ some. inr (let more = some_new t some in omega arith))
      (λ none. inl (stable_next t (none_new t none)))
      (either_way (list_any (is_new t) (range_with_len 0 n))))
      (grown t)

  -- a set with n members has all numbers below n
  full : (t k : ℕ) → n ≤ count t → k < n → Contains (after t) k
  full t k many below = ⊎_elim
      (λ in_set. Contains-from_holds (after t) k in_set)
      (λ out.
      let fewer = filter_lt (holds (after t)) (λ m. true) (λ m old.
      refl) (range_with_len 0 n) k (range_has n k below) out refl in
      let all = all_kept (range_with_len 0 n) in
      let size = length-range_with_len 0 n in
      absurd (omega arith))
      (either_way (holds (after t) k))

  stable_at_end : Stable n
  stable_at_end = ⊎_elim
      (λ stable. stable)
      (λ many k at. full n k many (all_below (suc n) k at))
      (grown n)

  kept : (t k : ℕ) → Contains first k → Contains (after t) k
  kept zero k at = at
  kept (suc t) k at = stays t k (within k at) (kept t k at)

  -- the first numbers are members
  pub least_set_has : (k : ℕ) → Contains first k → Contains (least_set n brings first) k
  least_set_has k at = kept n k at

  -- what a member brings along is a member
  pub least_set_closed : (m k : ℕ) → Contains (least_set n brings first) m
      → IsTrue (brings m k) → k < n
      → Contains (least_set n brings first) k
  least_set_closed m k at h below = stable_at_end k (brought n m k below at h)

  pub least_set_below : (k : ℕ) → Contains (least_set n brings first) k → k < n
  least_set_below k at = all_below n k at

  module _ (P : ℕ → Type 0) (starts : (k : ℕ) → Contains first k → P k)
      (goes_on : (m k : ℕ) → P m → IsTrue (brings m k) → k < n → P k) where
    within_closed : (t k : ℕ) → Contains (after t) k → P k
    within_closed zero k at = starts k at
    within_closed (suc t) k at = ⊎_elim
        (λ old. within_closed t k old)
        (λ new. goes_on new.0 k (within_closed t new.0 new.1) new.2 (all_below (suc t) k at))
        (came t k at)

    -- whatever holds of the first numbers, and with each number of what it brings along, holds of
    -- all members
    pub least_set_least : (k : ℕ) → Contains (least_set n brings first) k → P k
    least_set_least k at = within_closed n k at
