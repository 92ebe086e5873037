-- Literals that stand in lists.
use Rattle.std.proofs.Common.{◌≡◌, Bool, true, false, ℤ, List, [], ◌∷◌, refl, sym, ◌∙◌, subst, inl}
use Rattle.std.proofs.Common.{inr, ◌⊎◌, ⊎_elim}
use Rattle.std.specs.List.{list_any}
use Rattle.std.specs.Ordering.{int_eq}
use Rattle.std.proofs.lemmas.Bool.{false≢true, or_cases, or_left, or_right, cases_Bool}
use Rattle.std.proofs.lemmas.Bool.{false_from_ne_true}
use Rattle.std.proofs.lemmas.Bool.Decides.{Decides-int_eq}
use Rattle.sv_clause.specs.Literals.{stands}

pub same_from_int_eq : (x y : ℤ) → int_eq x y ≡ true → x ≡ y
same_from_int_eq x y e = (Decides-int_eq x y).0 e

pub int_eq-same : (x y : ℤ) → x ≡ y → int_eq x y ≡ true
int_eq-same x y e = (Decides-int_eq x y).1 e

pub int_eq-other : (x y : ℤ) → (x ≡ y → ⊥) → int_eq x y ≡ false
int_eq-other x y ne = false_from_ne_true (int_eq x y) (λ e. ne (same_from_int_eq x y e))

-- two literals are the same or not
pub cases_int : (x y : ℤ) → (x ≡ y) ⊎ (x ≡ y → ⊥)
cases_int x y =
    ⊎_elim (λ e. inl (same_from_int_eq x y e)) (λ e.
    inr (λ same. false≢true (sym e ∙ int_eq-same x y same))) (cases_Bool (int_eq x y))

pub int_eq_comm : (x y : ℤ) → int_eq x y ≡ true → int_eq y x ≡ true
int_eq_comm x y e = int_eq-same y x (sym (same_from_int_eq x y e))

-- some element that a test passes stands in the list
pub found_by : (test : ℤ → Bool) (xs : List ℤ) → list_any test xs ≡ true →
    (x : ℤ) × (stands x xs ≡ true) × (test x ≡ true)
found_by test [] e = absurd (false≢true e)
found_by test (x ∷ xs) e =
    ⊎_elim (λ here. (x, or_left (int_eq x x) (stands x xs) (int_eq-same x x refl), here))
    (λ there. let f = found_by test xs there in
    (f.0, or_right (int_eq f.0 x) (stands f.0 xs) f.1, f.2))
    (or_cases (test x) (list_any test xs) e)

pub any_from : (test : ℤ → Bool) (xs : List ℤ) (x : ℤ) → stands x xs ≡ true → test x ≡ true →
    list_any test xs ≡ true
any_from test [] x e t = absurd (false≢true e)
any_from test (y ∷ ys) x e t =
    ⊎_elim (λ here. or_left (test y) (list_any test ys)
    (subst (λ z. test z ≡ true) (same_from_int_eq x y here) t))
    (λ there. or_right (test y) (list_any test ys) (any_from test ys x there t))
    (or_cases (int_eq x y) (stands x ys) e)
