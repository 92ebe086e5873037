-- A list item by item: what is left from a place on, what is made of some items before others, and
-- a list placed after another.
use Rattle.std.proofs.Common.{◌≡◌, ℕ, ◌+◌, ◌<◌, List, [], ◌∷◌, ◌++◌, length, get_or, drop, refl}
use Rattle.std.proofs.Common.{sym, ap, subst, ◌∙◌, ⊎_elim}
use Rattle.std.specs.Prelude.{Contains}
use Rattle.std.proofs.lemmas.List.{drop_more}
use Rattle.sv_system.proofs.Lists.{Contains-head, Contains-later, Contains-nil, Contains-cases}

-- what is left is the item there and what is behind it
pub left_more : {X : Type 0} (xs : List X) (i : ℕ) (x : X) → i < length xs → x ≡ get_or xs i x
    → drop i xs ≡ x ∷ drop (i + 1) xs
left_more xs i x within is = drop_more xs i x within ∙ ap (λ y. y ∷ drop (i + 1) xs) (sym is)

-- what is made of some items before others: each goes in front of what is made of those behind it
abbrev pub before : {X M : Type 0} → (X → M → M) → List X → M → M
before more [] rest = rest
before more (x ∷ xs) rest = more x (before more xs rest)

module _ {X M : Type 0} (more : X → M → M) where
  pub before_push : (xs : List X) (x : X) (rest : M) →
      before more (xs ++ x ∷ []) rest ≡ before more xs (more x rest)
  before_push [] x rest = refl
  before_push (y ∷ xs) x rest = ap (more y) (before_push xs x rest)

  -- before what is made of none, it is what is made of all
  pub before_end : (made : List X → M)
      → ((x : X) (xs : List X) → more x (made xs) ≡ made (x ∷ xs))
      → (xs : List X) → before more xs (made []) ≡ made xs
  before_end made each [] = refl
  before_end made each (x ∷ xs) = ap (more x) (before_end made each xs) ∙ each x xs

-- a list placed after another, one by one: the last comes first
abbrev pub placed : {X : Type 0} → List X → List X → List X
placed first [] = first
placed first (x ∷ xs) = placed (x ∷ first) xs

module _ {X : Type 0} where
  pub stays_placed : (first xs : List X) (x : X) → Contains first x → Contains (placed first xs) x
  stays_placed first [] x at = at
  stays_placed first (z ∷ xs) x at = stays_placed (z ∷ first) xs x (Contains-later z first x at)

  pub is_placed : (first xs : List X) (x : X) → Contains xs x → Contains (placed first xs) x
  is_placed first [] x at = absurd (Contains-nil x at)
  is_placed first (z ∷ xs) x at = ⊎_elim
      (λ e. stays_placed (z ∷ first) xs x (subst (Contains (z ∷ first)) e (Contains-head z first)))
      (λ inside. is_placed (z ∷ first) xs x inside)
      (Contains-cases z xs x at)
