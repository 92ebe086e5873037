-- What is contained in two lists one after the other, in one element, and in all elements.
use Rattle.std.proofs.Common.{◌≡◌, List, [], ◌∷◌, ◌++◌, ◌⊎◌, inl, inr, ⊎_elim, subst, sym}
use Rattle.std.specs.Prelude.{Contains, All, flat_map}
use Rattle.std.proofs.lemmas.List.Elements.{Contains-get_or}
use Rattle.sv_system.proofs.Lists.{Contains-head, Contains-later, Contains-nil, Contains-cases}

module _ {X : Type 0} where
  pub Contains-left : (xs ys : List X) (x : X) → Contains xs x → Contains (xs ++ ys) x
  Contains-left [] ys x at = absurd (Contains-nil x at)
  Contains-left (z ∷ xs) ys x at = ⊎_elim
      (λ e. subst (Contains (z ∷ xs ++ ys)) e (Contains-head z (xs ++ ys)))
      (λ inside. Contains-later z (xs ++ ys) x (Contains-left xs ys x inside))
      (Contains-cases z xs x at)

  pub Contains-right : (xs ys : List X) (x : X) → Contains ys x → Contains (xs ++ ys) x
  Contains-right [] ys x at = at
  Contains-right (z ∷ xs) ys x at = Contains-later z (xs ++ ys) x (Contains-right xs ys x at)

  pub Contains-either : (xs ys : List X) (x : X) → Contains (xs ++ ys) x →
      Contains xs x ⊎ Contains ys x
  Contains-either [] ys x at = inr at
  Contains-either (z ∷ xs) ys x at = ⊎_elim
      (λ e. inl (subst (Contains (z ∷ xs)) e (Contains-head z xs)))
      (λ inside. ⊎_elim (λ l. inl (Contains-later z xs x l)) (λ r.
      inr r) (Contains-either xs ys x inside))
      (Contains-cases z (xs ++ ys) x at)

  pub only : (x y : X) → Contains (x ∷ []) y → x ≡ y
  only x y at = ⊎_elim (λ is. is) (λ none. absurd (Contains-nil y none)) (Contains-cases x [] y at)

  pub all_contained : (P : X → Type 0) (xs : List X) → All P xs → (x : X) → Contains xs x → P x
  all_contained P xs each x at = subst P at.2 (each at.0 x at.1)

  pub contained_all : (P : X → Type 0) (xs : List X) → ((x : X) → Contains xs x → P x) → All P xs
  contained_all P xs each k d inside = each _ (Contains-get_or xs k d inside)

-- ---- what is made of the elements of a list

module _ {X Y : Type 0} where
  pub from_flat_map : (f : X → List Y) (xs : List X) (y : Y) → Contains (flat_map f xs) y →
      (x : X) × Contains xs x × Contains (f x) y
  from_flat_map f [] y at = absurd (Contains-nil y at)
  from_flat_map f (x ∷ xs) y at = ⊎_elim
      (λ here. (x, Contains-head x xs, here))
      (λ later. let found = from_flat_map f xs y later in
      (found.0, Contains-later x xs found.0 found.1, found.2))
      (Contains-either (f x) (flat_map f xs) y at)

  pub to_flat_map : (f : X → List Y) (xs : List X) (x : X) (y : Y) → Contains xs x →
      Contains (f x) y → Contains (flat_map f xs) y
  to_flat_map f [] x y at there = absurd (Contains-nil x at)
  to_flat_map f (z ∷ xs) x y at there = ⊎_elim
      (λ is. Contains-left (f z) (flat_map f xs) y (subst (λ w. Contains (f w) y) (sym is) there))
      (λ inside. Contains-right (f z) (flat_map f xs) y (to_flat_map f xs x y inside there))
      (Contains-cases z xs x at)
