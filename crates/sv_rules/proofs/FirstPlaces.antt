-- The first place at which two lists of one length pass a test together.
use Rattle.std.proofs.Common.{◌≡◌, ℕ, ◌<◌, ◌≤◌, Bool, true, false, List, [], ◌∷◌, length, get_or}
use Rattle.std.proofs.Common.{Option, Some, None, sym, ap, subst, ◌∙◌, arith, Bor}
use Rattle.std.proofs.iter.Yields.{fronts}
use Rattle.std.proofs.lemmas.Iterator.{YieldsList-from_slice, YieldsList-from_zip, zips}
use Rattle.std.proofs.lemmas.Iterator.{IsFirst-from_position}
use Rattle.std.proofs.lemmas.Slice.Zip.{length-zip, get_or-zip}
use Rattle.std.specs.Fn.{Called}
use Rattle.std.specs.Iterator.{FindsPosition}
use Rattle.std.specs.Iterator.Adapters.{zip_first, zip_second}
use Rattle.std.specs.List.{zip, AllWithin, HoldsAt}
use Rattle.std.specs.Prelude.{IsTrue, IsFalse, MatchOption}
use Rattle.std.specs.Slice.Iter.{iter_rest}
use Rattle.std.specs.declared.iter.Zip.{Zip}
use Rattle.std.specs.declared.slice.Iter.{Iter}
use denote.Param.Members.{Mut}

-- the first number below a bound that passes a test, or there is none
abbrev pub IsFirstPlace : (passes : ℕ → Bool) → (n : ℕ) → Option ℕ → Type 0
IsFirstPlace passes n None = (k : ℕ) → k < n → IsFalse (passes k)
IsFirstPlace passes n (Some i) =
    (i < n) × IsTrue (passes i) × ((k : ℕ) → k < i → IsFalse (passes k))

some_item : {X : Type 0} (xs : List X) (k : ℕ) → k < length xs → X
some_item [] k inside = absurd (omega arith)
some_item (x ∷ xs) k inside = x

module _ {X Y : Type 0} (xs : List X) (ys : List Y) (same : length ys ≡ length xs)
    (test : X × Y → Bool) (passes : ℕ → Bool)
    (at : (k : ℕ) (d : X × Y) → k < length xs →
    test (get_or xs k d.0, get_or ys k d.1) ≡ passes k) where
  size : length (zip xs ys) ≡ length xs
  size = let both = length-zip xs ys in omega arith

  at_pair : (k : ℕ) (d : X × Y) → k < length xs → test (get_or (zip xs ys) k d) ≡ passes k
  at_pair k d inside =
      ap test (get_or-zip xs ys k d inside (subst (λ n. k < n) (sym same) inside))
      ∙ at k d inside

  none_before : (i : ℕ) → i ≤ length xs → AllWithin (λ p. test p ≡ false) (zip xs ys) 0 i
      → (k : ℕ) → k < i → IsFalse (passes k)
  none_before i most none k below =
      let count = size in
      let inside : k < length (zip xs ys) = omega arith in
      let d = some_item (zip xs ys) k inside in
      sym (at_pair k d (omega arith)) ∙ none k d (omega arith) below

  is_first : (found : Option ℕ)
      → MatchOption found (AllWithin (λ p. test p ≡ false) (zip xs ys) 0 (length (zip xs ys)))
      (λ i. (i < length (zip xs ys)) × HoldsAt (λ p. test p ≡ true) (zip xs ys) i
      × AllWithin (λ p. test p ≡ false) (zip xs ys) 0 i)
      → IsFirstPlace passes (length xs) found
  is_first None none =
      none_before (length xs) (omega arith)
      (subst (AllWithin (λ p. test p ≡ false) (zip xs ys) 0) size none)
  is_first (Some i) first =
      let count = size in
      let lt = first.0 in
      let inside : i < length xs = omega arith in
      let d = some_item (zip xs ys) i first.0 in
      (inside, sym (at_pair i d inside) ∙ first.1 d, none_before i (omega arith) first.2)

  -- what `position` finds in the pairs
  pub position_finds : {F : Type 0} {g : Mut F ((Bor X × Bor Y) × Unit {0}) Bool}
      {s : Zip (Iter X) (Iter Y)} (u : Zip (Iter X) (Iter Y)) (f : F) (found : Option ℕ)
      → FindsPosition (zips fronts fronts) g s f found u
      → iter_rest (zip_first s) ≡ xs → iter_rest (zip_second s) ≡ ys
      → ((p : Bor X × Bor Y) (q : F) → Called g f (p, tt) true q
      → test (p.0.now, p.1.now) ≡ true)
      → ((p : Bor X × Bor Y) (q : F) → Called g f (p, tt) false q
      → (q ≡ f) × (test (p.0.now, p.1.now) ≡ false))
      → IsFirstPlace passes (length xs) found
  position_finds u f found ran first second passed failed = is_first found
      (IsFirst-from_position u f found (λ p. test p ≡ true) (λ p. test p ≡ false) ran
      (YieldsList-from_zip (YieldsList-from_slice xs first) (YieldsList-from_slice ys second))
      passed failed)
