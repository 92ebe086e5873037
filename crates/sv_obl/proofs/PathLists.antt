-- Small facts on lists and tests.
use Rattle.std.proofs.Common.{◌≡◌, Bool, true, false, cond, ◌&&◌, List, [], ◌∷◌, ◌++◌, ◌⊎◌, inl}
use Rattle.std.proofs.Common.{inr, ⊎_elim, refl, sym, ap, ap₂, subst, ◌∙◌, ◌||◌, suc, length, map}
use Rattle.std.specs.Prelude.{Contains, IsTrue, IsFalse, filter, flat_map}
use Rattle.std.specs.Bool.{beq}
use Rattle.std.specs.List.{list_any, list_all, AllZip}
use Rattle.std.proofs.lemmas.Bool.{false≢true}
use Rattle.std.proofs.lemmas.List.Concat.{flat_map-append}
use Rattle.sv_system.proofs.Lists.{Contains-nil, Contains-cases, Contains-head, Contains-later}
use Rattle.sv_flat.proofs.Depths.{first_of, second_of}
use Rattle.sv_flat.proofs.LeastSets.{some_from, from_some}
use Rattle.sv_flat.proofs.SameRuns.{or_none_left, or_none_right, none_found}
use Rattle.sv_flat.proofs.Members.{Contains-left, Contains-right, Contains-either}

-- ---- tests

pub same_truth : (a b : Bool) → IsTrue (beq a b) → a ≡ b
same_truth true true h = refl
same_truth true false h = absurd (false≢true h)
same_truth false true h = absurd (false≢true h)
same_truth false false h = refl

pub truth_same : (a b : Bool) → a ≡ b → IsTrue (beq a b)
truth_same true true h = refl
truth_same true false h = absurd (false≢true (sym h))
truth_same false true h = absurd (false≢true h)
truth_same false false h = refl

pub both_true : (a b : Bool) → IsTrue a → IsTrue b → IsTrue (a && b)
both_true true b h k = k
both_true false b h k = h

pub cond_true : {X : Type 0} (b : Bool) (x y : X) → IsTrue b → cond b x y ≡ x
cond_true true x y h = refl
cond_true false x y h = absurd (false≢true h)

pub cond_false : {X : Type 0} (b : Bool) (x y : X) → IsFalse b → cond b x y ≡ y
cond_false true x y h = absurd (false≢true (sym h))
cond_false false x y h = refl

pub neither : (a b : Bool) → IsFalse (a && b) → IsFalse a ⊎ IsFalse b
neither true b h = inr h
neither false b h = inl refl

-- ---- lists

module _ {X : Type 0} where
  -- an element of a list that a test chooses
  pub from_cond : (c : Bool) (xs ys : List X) (x : X) → Contains (cond c xs ys) x
      → (IsTrue c × Contains xs x) ⊎ (IsFalse c × Contains ys x)
  from_cond true xs ys x at = inl (refl, at)
  from_cond false xs ys x at = inr (refl, at)

  pub in_first : (c : Bool) (xs ys : List X) (x : X) → IsTrue c → Contains xs x →
      Contains (cond c xs ys) x
  in_first true xs ys x h at = at
  in_first false xs ys x h at = absurd (false≢true h)

  pub in_second : (c : Bool) (xs ys : List X) (x : X) → IsFalse c → Contains ys x →
      Contains (cond c xs ys) x
  in_second true xs ys x h at = absurd (false≢true (sym h))
  in_second false xs ys x h at = at

  module _ (test : X → Bool) where
    pub all_left : (xs ys : List X) → IsTrue (list_all test (xs ++ ys)) → IsTrue (list_all test xs)
    all_left [] ys h = refl
    all_left (x ∷ xs) ys h =
        both_true (test x) (list_all test xs) (first_of (test x) (list_all test (xs ++ ys)) h)
        (all_left xs ys (second_of (test x) (list_all test (xs ++ ys)) h))

    pub all_right : (xs ys : List X) → IsTrue (list_all test (xs ++ ys)) → IsTrue (list_all test ys)
    all_right [] ys h = h
    all_right (x ∷ xs) ys h = all_right xs ys (second_of (test x) (list_all test (xs ++ ys)) h)

    pub all_joined : (xs ys : List X) → IsTrue (list_all test xs) → IsTrue (list_all test ys) →
        IsTrue (list_all test (xs ++ ys))
    all_joined [] ys h k = k
    all_joined (x ∷ xs) ys h k =
        both_true (test x) (list_all test (xs ++ ys)) (first_of (test x) (list_all test xs) h)
        (all_joined xs ys (second_of (test x) (list_all test xs) h) k)

    pub all_from : (xs : List X) → ((x : X) → Contains xs x → IsTrue (test x)) →
        IsTrue (list_all test xs)
    all_from [] each = refl
    all_from (x ∷ xs) each = both_true (test x) (list_all test xs) (each x (Contains-head x xs))
        (all_from xs (λ y at. each y (Contains-later x xs y at)))

    pub none_kept : (xs : List X) → IsFalse (list_any test xs) → filter test xs ≡ []
    none_kept [] h = refl
    none_kept (x ∷ xs) h =
        cond_false (test x) (x ∷ filter test xs) (filter test xs)
        (or_none_left (test x) (list_any test xs) h)
        ∙ none_kept xs (or_none_right (test x) (list_any test xs) h)

-- ---- lists of lists

module _ {X Y Z : Type 0} where
  pub flat_flat : (f : X → List Y) (g : Y → List Z) (xs : List X)
      → flat_map g (flat_map f xs) ≡ flat_map (λ x. flat_map g (f x)) xs
  flat_flat f g [] = refl
  flat_flat f g (x ∷ xs) =
      flat_map-append g (f x) (flat_map f xs)
      ∙ ap (λ zs. flat_map g (f x) ++ zs) (flat_flat f g xs)

module _ {X Y : Type 0} where
  pub flat_alike : (f g : X → List Y) → ((x : X) → f x ≡ g x) → (xs : List X)
      → flat_map f xs ≡ flat_map g xs
  flat_alike f g same [] = refl
  flat_alike f g same (x ∷ xs) = ap₂ (λ a b. a ++ b) (same x) (flat_alike f g same xs)

pub flat_itself : {X : Type 0} (xs : List X) → flat_map (λ x. x ∷ []) xs ≡ xs
flat_itself [] = refl
flat_itself (x ∷ xs) = ap (λ ys. x ∷ ys) (flat_itself xs)

-- ---- members

module _ {X Y : Type 0} (f : X → List Y) where
  pub in_flat_map : (xs : List X) (x : X) (y : Y) → Contains xs x → Contains (f x) y →
      Contains (flat_map f xs) y
  in_flat_map [] x y at inside = absurd (Contains-nil x at)
  in_flat_map (z ∷ xs) x y at inside = ⊎_elim
      (λ is. Contains-left (f z) (flat_map f xs) y (subst (λ w. Contains (f w) y) (sym is) inside))
      (λ later. Contains-right (f z) (flat_map f xs) y (in_flat_map xs x y later inside))
      (Contains-cases z xs x at)

  pub from_flat_map : (xs : List X) (y : Y) → Contains (flat_map f xs) y →
      (x : X) × Contains xs x × Contains (f x) y
  from_flat_map [] y at = absurd (Contains-nil y at)
  from_flat_map (x ∷ xs) y at = ⊎_elim
      (λ here. (x, Contains-head x xs, here))
      (λ later. let found = from_flat_map xs y later in
      (found.0, Contains-later x xs found.0 found.1, found.2))
      (Contains-either (f x) (flat_map f xs) y at)

-- where no element passes a test, none passes one that asks for as much
pub none_of : {X : Type 0} (f g : X → Bool) (xs : List X) → ((x : X) → IsTrue (f x) → IsTrue (g x))
    → IsFalse (list_any g xs) → IsFalse (list_any f xs)
none_of f g xs each none =
    none_found (list_any f xs) (λ some.
    let found = from_some f xs some in
    false≢true (sym none ∙ some_from g xs found.0 found.1 (each found.0 found.2)))

-- ---- two lists, element by element

module _ {X Y : Type 0} (R : X → Y → Type 0) where
  pub zip_append : (xs more : List X) (ys others : List Y) → AllZip R xs ys → AllZip R more others →
      AllZip R (xs ++ more) (ys ++ others)
  zip_append [] more (y ∷ ys) others one two = absurd one
  zip_append (x ∷ xs) more [] others one two = absurd one
  zip_append [] more [] others one two = two
  zip_append (x ∷ xs) more (y ∷ ys) others one two =
      (one.0, zip_append xs more ys others one.1 two)

  pub zip_map : (f : X → X) (g : Y → Y) → ((x : X) (y : Y) → R x y → R (f x) (g y))
      → (xs : List X) (ys : List Y) → AllZip R xs ys → AllZip R (map f xs) (map g ys)
  zip_map f g each [] (y ∷ ys) all = absurd all
  zip_map f g each (x ∷ xs) [] all = absurd all
  zip_map f g each [] [] all = all
  zip_map f g each (x ∷ xs) (y ∷ ys) all = (each x y all.0, zip_map f g each xs ys all.1)

  pub zip_flat : (f : X → List X) (g : Y → List Y)
      → ((x : X) (y : Y) → R x y → AllZip R (f x) (g y))
      → (xs : List X) (ys : List Y) → AllZip R xs ys → AllZip R (flat_map f xs) (flat_map g ys)
  zip_flat f g each [] (y ∷ ys) all = absurd all
  zip_flat f g each (x ∷ xs) [] all = absurd all
  zip_flat f g each [] [] all = all
  zip_flat f g each (x ∷ xs) (y ∷ ys) all =
      zip_append (f x) (flat_map f xs) (g y) (flat_map g ys) (each x y all.0)
      (zip_flat f g each xs ys all.1)

  pub zip_any : {Z : Type 0} (make : X → Z) (f : Z → Bool) (g : Y → Bool)
      → ((x : X) (y : Y) → R x y → f (make x) ≡ g y)
      → (xs : List X) (ys : List Y) → AllZip R xs ys → list_any f (map make xs) ≡ list_any g ys
  zip_any make f g each [] [] all = refl
  zip_any make f g each [] (y ∷ ys) all = absurd all
  zip_any make f g each (x ∷ xs) [] all = absurd all
  zip_any make f g each (x ∷ xs) (y ∷ ys) all =
      ap₂ (λ a b. a || b) (each x y all.0) (zip_any make f g each xs ys all.1)

  pub zip_count : {Z : Type 0} (make : X → Z) (xs : List X) (ys : List Y) → AllZip R xs ys →
      length (map make xs) ≡ length ys
  zip_count make [] [] all = refl
  zip_count make [] (y ∷ ys) all = absurd all
  zip_count make (x ∷ xs) [] all = absurd all
  zip_count make (x ∷ xs) (y ∷ ys) all = ap suc (zip_count make xs ys all.1)
