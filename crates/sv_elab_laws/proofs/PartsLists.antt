-- Lists side by side, lists that stand in others, and lists of which no two members are the same.
use Rattle.std.proofs.Common.{◌≡◌, ℕ, zero, suc, ◌+◌, ◌<◌, List, [], ◌∷◌, ◌++◌, map, length, Option}
use Rattle.std.proofs.Common.{Some, None, refl, ap, subst, ◌∙◌, arith, ◌⊎◌, ⊎_elim}
use Rattle.std.specs.Prelude.{slice_index_or, Contains}
use Rattle.std.specs.List.{slice_get, filter_map, cons_option, AllZip}
use Rattle.sv_system.proofs.Lists.{Contains-head, Contains-later, Contains-cases, Contains-nil}
use Rattle.sv_flat.proofs.Members.{Contains-either as contains_either}

-- ---- side by side

module _ {X Y : Type 0} (R : X → Y → Type 0) where
  pub zip_append : (xs us : List X) (ys vs : List Y) → AllZip R xs ys → AllZip R us vs →
      AllZip R (xs ++ us) (ys ++ vs)
  zip_append [] us [] vs h k = k
  zip_append [] us (y ∷ ys) vs h k = absurd h
  zip_append (x ∷ xs) us [] vs h k = absurd h
  zip_append (x ∷ xs) us (y ∷ ys) vs h k = (h.0, zip_append xs us ys vs h.1 k)

  pub zip_length : (xs : List X) (ys : List Y) → AllZip R xs ys → length xs ≡ length ys
  zip_length [] [] h = refl
  zip_length [] (y ∷ ys) h = absurd h
  zip_length (x ∷ xs) [] h = absurd h
  zip_length (x ∷ xs) (y ∷ ys) h = ap suc (zip_length xs ys h.1)

  -- what stands at a place on the left has one beside it
  pub zip_left : (xs : List X) (ys : List Y) → AllZip R xs ys → (k : ℕ) (x : X)
      → slice_get xs k ≡ Some x
      → (y : Y) × (slice_get ys k ≡ Some y) × R x y
  zip_left [] [] h k x at = absurd (cc at)
  zip_left [] (y ∷ ys) h k x at = absurd h
  zip_left (x ∷ xs) [] h k z at = absurd h
  zip_left (x ∷ xs) (y ∷ ys) h zero z at = (y, refl, subst (λ w. R w y) (cc at) h.0)
  zip_left (x ∷ xs) (y ∷ ys) h (suc k) z at = zip_left xs ys h.1 k z at

  zip_turned : (xs : List X) (ys : List Y) → AllZip R xs ys → AllZip (λ y x. R x y) ys xs
  zip_turned [] [] h = tt
  zip_turned [] (y ∷ ys) h = absurd h
  zip_turned (x ∷ xs) [] h = absurd h
  zip_turned (x ∷ xs) (y ∷ ys) h = (h.0, zip_turned xs ys h.1)

-- and so has what stands on the right
pub zip_right : {X Y : Type 0} (R : X → Y → Type 0) (xs : List X) (ys : List Y) → AllZip R xs ys
    → (k : ℕ) (y : Y) → slice_get ys k ≡ Some y
    → (x : X) × (slice_get xs k ≡ Some x) × R x y
zip_right R xs ys h k y at = zip_left (λ y x. R x y) ys xs (zip_turned R xs ys h) k y at

-- ---- members by their places

module _ {X : Type 0} where
  pub get_contains : (xs : List X) (k : ℕ) (x : X) → slice_get xs k ≡ Some x → Contains xs x
  get_contains [] k x at = absurd (cc at)
  get_contains (y ∷ xs) zero x at = subst (Contains (y ∷ xs)) (cc at) (Contains-head y xs)
  get_contains (y ∷ xs) (suc k) x at = Contains-later y xs x (get_contains xs k x at)

  pub contains_get : (xs : List X) (x : X) → Contains xs x → (k : ℕ) × (slice_get xs k ≡ Some x)
  contains_get [] x at = absurd (Contains-nil x at)
  contains_get (y ∷ xs) x at = ⊎_elim
      (λ e. (zero, ap Some e))
      (λ inside. let found = contains_get xs x inside in (suc found.0, found.1))
      (Contains-cases y xs x at)

  pub get_below : (xs : List X) (k : ℕ) (x : X) → slice_get xs k ≡ Some x → k < length xs
  get_below [] k x at = absurd (cc at)
  get_below (y ∷ xs) zero x at = omega arith
  get_below (y ∷ xs) (suc k) x at = let h = get_below xs k x at in omega arith

  pub index_is : (xs : List X) (k : ℕ) (x d : X) → slice_get xs k ≡ Some x →
      slice_index_or xs k d ≡ x
  index_is [] k x d at = absurd (cc at)
  index_is (y ∷ xs) zero x d at = cc at
  index_is (y ∷ xs) (suc k) x d at = index_is xs k x d at

  pub below_get : (xs : List X) (k : ℕ) → k < length xs → (x : X) × (slice_get xs k ≡ Some x)
  below_get [] k h = absurd (omega arith)
  below_get (y ∷ xs) zero h = (y, refl)
  below_get (y ∷ xs) (suc k) h = below_get xs k (omega arith)

  pub get_left : (xs ys : List X) (k : ℕ) (x : X) → slice_get xs k ≡ Some x →
      slice_get (xs ++ ys) k ≡ Some x
  get_left [] ys k x at = absurd (cc at)
  get_left (y ∷ xs) ys zero x at = at
  get_left (y ∷ xs) ys (suc k) x at = get_left xs ys k x at

  -- ---- standing in a list from a place on

  abbrev pub StandsAt : List X → ℕ → List X → Type 0
  StandsAt all k [] = Unit {0}
  StandsAt all k (x ∷ xs) = (slice_get all k ≡ Some x) × StandsAt all (suc k) xs

  stands_later : (y : X) (all : List X) (k : ℕ) (xs : List X) → StandsAt all k xs →
      StandsAt (y ∷ all) (suc k) xs
  stands_later y all k [] h = tt
  stands_later y all k (x ∷ xs) h = (h.0, stands_later y all (suc k) xs h.1)

  pub stands_whole : (xs : List X) → StandsAt xs 0 xs
  stands_whole [] = tt
  stands_whole (x ∷ xs) = (refl, stands_later x xs 0 xs (stands_whole xs))

  pub stands_split : (all : List X) (k : ℕ) (xs ys : List X) → StandsAt all k (xs ++ ys)
      → StandsAt all k xs × StandsAt all (k + length xs) ys
  stands_split all k [] ys h =
      (tt, subst (λ m. StandsAt all m ys) (let e : k ≡ k + 0 = omega arith in e) h)
  stands_split all k (x ∷ xs) ys h =
      let rest = stands_split all (suc k) xs ys h.1 in (
        (h.0, rest.0),
        subst (λ m.
            StandsAt all m ys) (let e : suc k + length xs ≡ k + suc (length xs) = omega arith in
            e) rest.1,
      )

  pub stands_get : (all : List X) (k : ℕ) (xs : List X) → StandsAt all k xs → (j : ℕ) (x : X)
      → slice_get xs j ≡ Some x
      → slice_get all (k + j) ≡ Some x
  stands_get all k [] h j x at = absurd (cc at)
  stands_get all k (y ∷ xs) h zero x at =
      subst (λ m. slice_get all m ≡ Some x) (let e : k ≡ k + 0 = omega arith in e) (h.0 ∙ at)
  stands_get all k (y ∷ xs) h (suc j) x at =
      subst (λ m. slice_get all m ≡ Some x) (let e : suc k + j ≡ k + suc j = omega arith in
      e) (stands_get all (suc k) xs h.1 j x at)

  -- ---- no two the same

  abbrev pub AllDiffer : List X → Type 0
  AllDiffer [] = Unit {0}
  AllDiffer (x ∷ xs) = (Contains xs x → ⊥) × AllDiffer xs

  pub differ_append : (xs ys : List X) → AllDiffer xs → AllDiffer ys
      → ((x : X) → Contains xs x → Contains ys x → ⊥)
      → AllDiffer (xs ++ ys)
  differ_append [] ys hx hy apart = hy
  differ_append (x ∷ xs) ys hx hy apart = (
    λ at. ⊎_elim hx.0 (apart x (Contains-head x xs)) (contains_either xs ys x at),
    differ_append xs ys hx.1 hy (λ z l r. apart z (Contains-later x xs z l) r),
  )

  pub differ_places : (xs : List X) → AllDiffer xs → (j k : ℕ) (x : X) → slice_get xs j ≡ Some x →
      slice_get xs k ≡ Some x → j ≡ k
  differ_places [] h j k x a b = absurd (cc a)
  differ_places (y ∷ xs) h zero zero x a b = refl
  differ_places (y ∷ xs) h zero (suc k) x a b =
      absurd (h.0 (subst (Contains xs) (let e : x ≡ y = cc in e) (get_contains xs k x b)))
  differ_places (y ∷ xs) h (suc j) zero x a b =
      absurd (h.0 (subst (Contains xs) (let e : x ≡ y = cc in e) (get_contains xs j x a)))
  differ_places (y ∷ xs) h (suc j) (suc k) x a b = ap suc (differ_places xs h.1 j k x a b)

-- ---- maps

module _ {X Y : Type 0} where
  pub filter_map_append : (f : X → Option Y) (xs ys : List X) →
      filter_map f (xs ++ ys) ≡ filter_map f xs ++ filter_map f ys
  filter_map_append f [] ys = refl
  filter_map_append f (x ∷ xs) ys =
      ap (cons_option (f x)) (filter_map_append f xs ys) ∙ by_first (f x)
    where
      by_first : (o : Option Y) →
          cons_option o (filter_map f xs ++ filter_map f ys) ≡
          cons_option o (filter_map f xs) ++ filter_map f ys
      by_first (Some y) = refl
      by_first None = refl

  pub get_map : (f : X → Y) (xs : List X) (k : ℕ) (x : X) → slice_get xs k ≡ Some x →
      slice_get (map f xs) k ≡ Some (f x)
  get_map f [] k x at = absurd (cc at)
  get_map f (z ∷ xs) zero x at = ap (λ o. option_map_some f z o) at ∙ refl
    where
      option_map_some : (X → Y) → X → Option X → Option Y
      option_map_some g d (Some w) = Some (g w)
      option_map_some g d None = None
  get_map f (z ∷ xs) (suc k) x at = get_map f xs k x at
