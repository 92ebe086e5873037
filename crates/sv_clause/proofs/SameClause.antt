-- A clause is known by its literals.
use Rattle.std.proofs.Common.{◌≡◌, ℕ, ◌<◌, ◌≤◌, ◌||◌, ℤ, unsigned_abs, List, [], ◌∷◌, refl, sym, ap}
use Rattle.std.proofs.Common.{◌∙◌, subst, ⊎_elim, arith}
use Rattle.std.specs.Ordering.{int_eq}
use Rattle.std.proofs.lemmas.Bool.{false≢true, or_left, or_cases, cases_Bool}
use Rattle.sv_clause.specs.Literals.{stands, SameLiterals, Ascend, IsClause}
use Rattle.sv_clause.proofs.Standing.{same_from_int_eq, int_eq-same}
use Rattle.sv_clause.proofs.Merging.{above, not_above}

same_head : (x y : ℤ) (xs ys : List ℤ) → Ascend (unsigned_abs x) xs → Ascend (unsigned_abs y) ys →
    SameLiterals (x ∷ xs) (y ∷ ys) → x ≡ y
same_head x y xs ys up_x up_y same =
    ⊎_elim (same_from_int_eq x y)
    (λ x_later. ⊎_elim (λ e. sym (same_from_int_eq y x e))
    (λ y_later. let far : unsigned_abs y
    < unsigned_abs x = above (unsigned_abs y) x ys up_y x_later in
    let near : unsigned_abs x < unsigned_abs y = above (unsigned_abs x) y xs up_x y_later in
    absurd (omega arith))
    (or_cases (int_eq y x) (stands y xs) (same y
    ∙ or_left (int_eq y y) (stands y ys) (int_eq-same y y refl))))
    (or_cases (int_eq x y) (stands x ys) (sym (same x)
    ∙ or_left (int_eq x x) (stands x xs) (int_eq-same x x refl)))

same_rest : (l x : ℤ) (xs ys : List ℤ) → Ascend (unsigned_abs x) xs → Ascend (unsigned_abs x) ys →
    (int_eq l x || stands l xs) ≡ (int_eq l x || stands l ys) → stands l xs ≡ stands l ys
same_rest l x xs ys up_x up_y e =
    ⊎_elim
    (λ here. let size : unsigned_abs l ≤ unsigned_abs x = subst (λ z.
    unsigned_abs l ≤ unsigned_abs z) (same_from_int_eq l x here) (omega arith) in
    not_above (unsigned_abs x) l xs up_x size ∙ sym (not_above (unsigned_abs x) l ys up_y size))
    (λ other. ap (λ z. z || stands l xs) (sym other) ∙ e ∙ ap (λ z. z || stands l ys) other)
    (cases_Bool (int_eq l x))

same_by_literals : (m : ℕ) (xs ys : List ℤ) → Ascend m xs → Ascend m ys →
    SameLiterals xs ys → xs ≡ ys
same_by_literals m [] [] up_x up_y same = refl
same_by_literals m [] (y ∷ ys) up_x up_y same =
    absurd (false≢true (same y ∙ or_left (int_eq y y) (stands y ys) (int_eq-same y y refl)))
same_by_literals m (x ∷ xs) [] up_x up_y same =
    absurd (false≢true (sym (same x) ∙ or_left (int_eq x x) (stands x xs) (int_eq-same x x refl)))
same_by_literals m (x ∷ xs) (y ∷ ys) up_x up_y same =
    let head = same_head x y xs ys up_x.2 up_y.2 same in
    let up : Ascend (unsigned_abs x) ys =
    subst (λ z. Ascend (unsigned_abs z) ys) (sym head) up_y.2 in
    let rest = same_by_literals (unsigned_abs x) xs ys up_x.2 up (λ l.
    same_rest l x xs ys up_x.2 up (same l ∙ ap (λ z. int_eq l z || stands l ys) (sym head))) in
    ap (λ z. x ∷ z) rest ∙ ap (λ z. z ∷ ys) head

pub same_clause : (first second : List ℤ) → IsClause first → IsClause second →
    SameLiterals first second → first ≡ second
same_clause first second up_first up_second same =
    same_by_literals 0 first second up_first up_second same
