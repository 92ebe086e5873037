-- What is contained in a list, through `map`, `filter` and a first element.
use Rattle.std.proofs.Common.{◌≡◌, ℕ, zero, suc, ◌<◌, Bool, true, false, cond, List, [], ◌∷◌, map}
use Rattle.std.proofs.Common.{length, ◌⊎◌, inl, inr, ⊎_elim, refl, sym, ap, subst, ◌∙◌, arith}
use Rattle.std.proofs.Common.{get_or}
use Rattle.std.specs.Prelude.{Contains, filter, IsTrue}
use Rattle.std.specs.List.{AllZip}
use Rattle.std.proofs.lemmas.Bool.{false≢true}

module _ {X : Type 0} where
  pub Contains-head : (x : X) (xs : List X) → Contains (x ∷ xs) x
  Contains-head x xs = (0, omega arith, refl)

  pub Contains-later : (y : X) (xs : List X) (x : X) → Contains xs x → Contains (y ∷ xs) x
  Contains-later y xs x at = let k = at.0 in let lt = at.1 in (suc k, omega arith, at.2)

  place_cases : (y : X) (xs : List X) (x : X) (k : ℕ) → k < length (y ∷ xs) →
      get_or (y ∷ xs) k x ≡ x → (y ≡ x) ⊎ Contains xs x
  place_cases y xs x zero lt is = inl is
  place_cases y xs x (suc k) lt is = inr (k, omega arith, is)

  pub Contains-cases : (y : X) (xs : List X) (x : X) → Contains (y ∷ xs) x → (y ≡ x) ⊎ Contains xs x
  Contains-cases y xs x at = place_cases y xs x at.0 at.1 at.2

  pub Contains-nil : (x : X) → Contains [] x → ⊥
  Contains-nil x at = let lt = at.1 in omega arith

  kept_head : (b : Bool) (x : X) (xs : List X) → IsTrue b → Contains (cond b (x ∷ xs) xs) x
  kept_head true x xs yes' = Contains-head x xs
  kept_head false x xs yes' = absurd (false≢true yes')

  kept_later : (b : Bool) (y : X) (xs : List X) (x : X) → Contains xs x →
      Contains (cond b (y ∷ xs) xs) x
  kept_later true y xs x at = Contains-later y xs x at
  kept_later false y xs x at = at

  pub Contains-filter : (test : X → Bool) (xs : List X) (x : X) → Contains xs x → IsTrue (test x) →
      Contains (filter test xs) x
  Contains-filter test [] x at passes = absurd (Contains-nil x at)
  Contains-filter test (y ∷ xs) x at passes = ⊎_elim
      (λ e. subst (Contains (filter test (y ∷ xs))) e
      (kept_head (test y) y (filter test xs) (subst (λ z. IsTrue (test z)) (sym e) passes)))
      (λ inside. kept_later (test y) y (filter test xs) x (Contains-filter test xs x inside passes))
      (Contains-cases y xs x at)

module _ {X Y : Type 0} (f : X → Y) where
  pub Contains-map : (xs : List X) (x : X) → Contains xs x → Contains (map f xs) (f x)
  Contains-map [] x at = absurd (Contains-nil x at)
  Contains-map (y ∷ xs) x at = ⊎_elim
      (λ e. subst (λ z. Contains (map f (y ∷ xs)) (f z)) e (Contains-head (f y) (map f xs)))
      (λ inside. Contains-later (f y) (map f xs) (f x) (Contains-map xs x inside))
      (Contains-cases y xs x at)

  pub Contains-from_map : (xs : List X) (z : Y) → Contains (map f xs) z →
      (x : X) × Contains xs x × (f x ≡ z)
  Contains-from_map [] z at = absurd (Contains-nil z at)
  Contains-from_map (y ∷ xs) z at = ⊎_elim
      (λ e. (y, Contains-head y xs, e))
      (λ inside. let found = Contains-from_map xs z inside in
      (found.0, Contains-later y xs found.0 found.1, found.2))
      (Contains-cases (f y) (map f xs) z at)

-- of two lists that are related place by place, each element has one beside it
module _ {X Y : Type 0} (R : X → Y → Type 0) where
  pub zip_over : (xs : List X) (ys : List Y) → AllZip R xs ys → (x : X) → Contains xs x →
      (y : Y) × Contains ys y × R x y
  zip_over [] ys all x at = absurd (Contains-nil x at)
  zip_over (z ∷ xs) [] all x at = absurd all
  zip_over (z ∷ xs) (y ∷ ys) all x at = ⊎_elim
      (λ e. (y, Contains-head y ys, subst (λ w. R w y) e all.0))
      (λ inside. let found = zip_over xs ys all.1 x inside in
      (found.0, Contains-later y ys found.0 found.1, found.2))
      (Contains-cases z xs x at)

  pub zip_back : (xs : List X) (ys : List Y) → AllZip R xs ys → (y : Y) → Contains ys y →
      (x : X) × Contains xs x × R x y
  zip_back xs [] all y at = absurd (Contains-nil y at)
  zip_back [] (z ∷ ys) all y at = absurd all
  zip_back (x ∷ xs) (z ∷ ys) all y at = ⊎_elim
      (λ e. (x, Contains-head x xs, subst (R x) e all.0))
      (λ inside. let found = zip_back xs ys all.1 y inside in
      (found.0, Contains-later x xs found.0 found.1, found.2))
      (Contains-cases z ys y at)

-- two maps one after the other are one
pub map_map : {A B C : Type 0} (f : B → C) (g : A → B) (xs : List A) →
    map f (map g xs) ≡ map (λ x. f (g x)) xs
map_map f g [] = refl
map_map f g (x ∷ xs) = ap (λ ys. f (g x) ∷ ys) (map_map f g xs)

-- the elements that pass a test, each with its value
abbrev pub told : {X : Type 0} → (X → Bool) → (X → ℕ) → List X → List (X × ℕ)
told test value xs = map (λ x. (x, value x)) (filter test xs)

module _ {X : Type 0} where
  -- what one list tells of an element that passes, the other tells too
  pub told_value : (p q : X → Bool) (g h : X → ℕ) (xs : List X) → told p g xs ≡ told q h xs →
      (x : X) → Contains xs x → IsTrue (p x) → g x ≡ h x
  told_value p q g h xs same x at passes =
      let here = Contains-map (λ (y : X).
      (y, g y)) (filter p xs) x (Contains-filter p xs x at passes) in
      let there = Contains-from_map (λ (y : X).
      (y, h y)) (filter q xs) (x, g x) (subst (λ ps. Contains ps (x, g x)) same here) in
      sym (ap (λ (pair : X × ℕ). pair.1) there.2) ∙ ap h (ap (λ (pair : X × ℕ). pair.0) there.2)

  told_first : (b c : Bool) (x : X) (m n : ℕ) (ps qs : List (X × ℕ)) → b ≡ c → (IsTrue b → m ≡ n) →
      ps ≡ qs → cond b ((x, m) ∷ ps) ps ≡ cond c ((x, n) ∷ qs) qs
  told_first true c x m n ps qs e f rest =
      let values = f refl in subst (λ d. (x, m) ∷ ps ≡ cond d ((x, n) ∷ qs) qs) e cc
  told_first false c x m n ps qs e f rest = subst (λ d. ps ≡ cond d ((x, n) ∷ qs) qs) e rest

  told_step : (b : Bool) (f : X → X × ℕ) (x : X) (xs : List X) →
      map f (cond b (x ∷ xs) xs) ≡ cond b (f x ∷ map f xs) (map f xs)
  told_step true f x xs = refl
  told_step false f x xs = refl

  -- what a list tells begins with what its first element does
  pub told_next : (test : X → Bool) (value : X → ℕ) (x : X) (xs : List X) →
      told test value (x ∷ xs) ≡
      cond (test x) ((x, value x) ∷ told test value xs) (told test value xs)
  told_next test value x xs = told_step (test x) (λ y. (y, value y)) x (filter test xs)

  -- tests that agree, and values that agree where the tests pass, tell the same
  pub told_same : (p q : X → Bool) (g h : X → ℕ) (xs : List X) →
      ((x : X) → Contains xs x → p x ≡ q x) → ((x : X) → Contains xs x → IsTrue (p x) → g x ≡ h x) →
      told p g xs ≡ told q h xs
  told_same p q g h [] tests values = refl
  told_same p q g h (x ∷ xs) tests values =
      told_next p g x xs
      ∙ told_first (p x) (q x) x (g x) (h x) (told p g xs) (told q h xs)
      (tests x (Contains-head x xs)) (values x (Contains-head x xs))
      (told_same p q g h xs (λ y at. tests y (Contains-later x xs y at)) (λ y at.
      values y (Contains-later x xs y at)))
      ∙ sym (told_next q h x xs)
