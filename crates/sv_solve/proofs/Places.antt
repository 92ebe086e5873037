-- Where literals stand in lists.
use Rattle.std.proofs.Common.{◌≡◌, ℕ, zero, suc, ◌+◌, ◌<◌, ◌≤◌, Bool, true, false, ◌||◌, ℤ, pos}
use Rattle.std.proofs.Common.{List, [], ◌∷◌, ◌++◌, refl, sym, ap, ◌∙◌, subst, inl, inr, ◌⊎◌, ⊎_elim}
use Rattle.std.proofs.Common.{length, take, get_or, arith}
use Rattle.std.specs.Ordering.{int_eq}
use Rattle.std.proofs.lemmas.Bool.{false≢true, or_left, or_right, or_cases, false_from_ne_true}
use Rattle.std.proofs.lemmas.List.{take_more, take-take, take_all}
use Rattle.sv_clause.specs.Literals.{stands}
use Rattle.sv_clause.proofs.Standing.{same_from_int_eq, int_eq-same, int_eq-other}
use Rattle.sv_clause.proofs.Folding.{stands-push}
pub use Rattle.sv_clause.proofs.Folding.{stands_take}

pub or_nothing : (b : Bool) → (b || false) ≡ b
or_nothing true = refl
or_nothing false = refl

pub stands_push_old : (l x : ℤ) (xs : List ℤ) → stands l xs ≡ true → stands l (xs ++ x ∷ []) ≡ true
stands_push_old l x xs e = stands-push l xs x ∙ or_left (stands l xs) (int_eq l x) e

pub stands_push_new : (x : ℤ) (xs : List ℤ) → stands x (xs ++ x ∷ []) ≡ true
stands_push_new x xs =
    stands-push x xs x ∙ or_right (stands x xs) (int_eq x x) (int_eq-same x x refl)

pub stands_push_cases : (l x : ℤ) (xs : List ℤ) → stands l (xs ++ x ∷ []) ≡ true →
    (stands l xs ≡ true) ⊎ (l ≡ x)
stands_push_cases l x xs e =
    ⊎_elim inl (λ same. inr (same_from_int_eq l x same))
    (or_cases (stands l xs) (int_eq l x) (sym (stands-push l xs x) ∙ e))

pub stands_push_other : (l x : ℤ) (xs : List ℤ) → (l ≡ x → ⊥) →
    stands l (xs ++ x ∷ []) ≡ stands l xs
stands_push_other l x xs ne =
    stands-push l xs x ∙ ap (λ b. stands l xs || b) (int_eq-other l x ne) ∙ or_nothing (stands l xs)

pub stands_take_le : (l : ℤ) (xs : List ℤ) (i j : ℕ) → i ≤ j → stands l (take i xs) ≡ true →
    stands l (take j xs) ≡ true
stands_take_le l xs i j h e = stands_take l (take j xs) i (ap (stands l) (take-take i j xs h) ∙ e)

pub not_stands_take : (l : ℤ) (xs : List ℤ) (k : ℕ) → stands l xs ≡ false →
    stands l (take k xs) ≡ false
not_stands_take l xs k e =
    false_from_ne_true (stands l (take k xs)) (λ t. false≢true (sym e ∙ stands_take l xs k t))

pub not_stands_take_le : (l : ℤ) (xs : List ℤ) (i j : ℕ) → i ≤ j → stands l (take j xs) ≡ false →
    stands l (take i xs) ≡ false
not_stands_take_le l xs i j h e =
    false_from_ne_true (stands l (take i xs)) (λ t.
    false≢true (sym e ∙ stands_take_le l xs i j h t))

pub place_of : (l : ℤ) (xs : List ℤ) → stands l xs ≡ true →
    (i : ℕ) × (i < length xs) × (get_or xs i (pos 0) ≡ l)
place_of l [] e = absurd (false≢true e)
place_of l (x ∷ xs) e =
    ⊎_elim (λ same. (0, omega arith, sym (same_from_int_eq l x same)))
    (λ there. let p = place_of l xs there in let small : p.0 < length xs = p.1 in
    (suc p.0, omega arith, p.2))
    (or_cases (int_eq l x) (stands l xs) e)

pub stands_at : (xs : List ℤ) (i : ℕ) → i < length xs → stands (get_or xs i (pos 0)) xs ≡ true
stands_at [] i h = absurd (omega arith)
stands_at (x ∷ xs) zero h = or_left (int_eq x x) (stands x xs) (int_eq-same x x refl)
stands_at (x ∷ xs) (suc i) h =
    or_right (int_eq (get_or xs i (pos 0)) x) (stands (get_or xs i (pos 0)) xs)
    (stands_at xs i (omega arith))

pub stands_is : (l : ℤ) (xs : List ℤ) (i : ℕ) → i < length xs → get_or xs i (pos 0) ≡ l →
    stands l xs ≡ true
stands_is l xs i h e = subst (λ z. stands z xs ≡ true) e (stands_at xs i h)

-- what stands in one literal more
pub stands_more_cases : (l : ℤ) (xs : List ℤ) (i : ℕ) → i < length xs →
    stands l (take (i + 1) xs) ≡ true → (stands l (take i xs) ≡ true) ⊎ (l ≡ get_or xs i (pos 0))
stands_more_cases l xs i h e =
    stands_push_cases l (get_or xs i (pos 0)) (take i xs)
    (sym (ap (stands l) (take_more xs i (pos 0) h)) ∙ e)

pub stands_more_here : (xs : List ℤ) (i : ℕ) → i < length xs →
    stands (get_or xs i (pos 0)) (take (i + 1) xs) ≡ true
stands_more_here xs i h =
    ap (stands (get_or xs i (pos 0))) (take_more xs i (pos 0) h)
    ∙ stands_push_new (get_or xs i (pos 0)) (take i xs)

pub stands_more_other : (l : ℤ) (xs : List ℤ) (i : ℕ) → i < length xs →
    (l ≡ get_or xs i (pos 0) → ⊥) → stands l (take (i + 1) xs) ≡ stands l (take i xs)
stands_more_other l xs i h ne =
    ap (stands l) (take_more xs i (pos 0) h)
    ∙ stands_push_other l (get_or xs i (pos 0)) (take i xs) ne

pub stands_whole : (l : ℤ) (xs : List ℤ) (n : ℕ) → length xs ≤ n →
    stands l (take n xs) ≡ stands l xs
stands_whole l xs n h = ap (stands l) (take_all n xs h)

-- two tests that hold together are one
pub same_tests : (a b : Bool) → (a ≡ true → b ≡ true) → (b ≡ true → a ≡ true) → a ≡ b
same_tests true b f g = sym (f refl)
same_tests false true f g = g refl
same_tests false false f g = refl
