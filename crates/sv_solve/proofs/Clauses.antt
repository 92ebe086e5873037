-- Literals of clauses, and where clauses stand.
use Rattle.std.proofs.Common.{◌≡◌, ◌≢◌, ℕ, zero, suc, ◌+◌, ◌-◌, ◌<◌, ◌≤◌, ◌^◌, true, ℤ, pos, neg_ℤ}
use Rattle.std.proofs.Common.{unsigned_abs, List, [], ◌∷◌, refl, sym, ap, ◌∙◌, subst, ⊎_elim}
use Rattle.std.proofs.Common.{length, get_or, arith, Some, slice_get, add-one}
use Rattle.std.proofs.lemmas.List.{get_or_default}
use Rattle.std.proofs.lemmas.List.Elements.{All-from_get_or}
use Rattle.std.specs.List.{All}
use Rattle.std.proofs.lemmas.Bool.{cases_order, cases_lt}
use Rattle.sv_clause.specs.Literals.{stands, Ascend, IsClause}
use Rattle.sv_clause.specs.Logs.{numbered}
use Rattle.sv_clause.proofs.Standing.{cases_int}
use Rattle.sv_clause.proofs.Merging.{above, not_own_negation, unsigned_abs-neg}
use Rattle.sv_solve.specs.Codes.{IsOf}
use Rattle.sv_solve.specs.Search.{IsClauseOf, AllFalse, OthersFalse, Implies}
use Rattle.sv_solve.proofs.Places.{place_of, stands_at}

ascend_at : (m : ℕ) (xs : List ℤ) (i : ℕ) → Ascend m xs → i < length xs →
    (m < unsigned_abs (get_or xs i (pos 0))) × (unsigned_abs (get_or xs i (pos 0)) < 2 ^ 31)
ascend_at m [] i up h = absurd (omega arith)
ascend_at m (x ∷ xs) zero up h = (up.0, up.1)
ascend_at m (x ∷ xs) (suc i) up h =
    let far : m < unsigned_abs x = up.0 in
    let r = ascend_at (unsigned_abs x) xs i up.2 (omega arith) in
    let more : unsigned_abs x < unsigned_abs (get_or xs i (pos 0)) = r.0 in
    (omega arith, r.1)

ascend_apart : (m : ℕ) (xs : List ℤ) (i j : ℕ) → Ascend m xs → i < j → j < length xs →
    unsigned_abs (get_or xs i (pos 0)) < unsigned_abs (get_or xs j (pos 0))
ascend_apart m [] i j up lt h = absurd (omega arith)
ascend_apart m (x ∷ xs) zero zero up lt h = absurd (omega arith)
ascend_apart m (x ∷ xs) zero (suc j) up lt h =
    (ascend_at (unsigned_abs x) xs j up.2 (omega arith)).0
ascend_apart m (x ∷ xs) (suc i) zero up lt h = absurd (omega arith)
ascend_apart m (x ∷ xs) (suc i) (suc j) up lt h =
    ascend_apart (unsigned_abs x) xs i j up.2 (omega arith) (omega arith)

-- a clause of one literal alone is short
pub one_literal : (xs : List ℤ) (x : ℤ) → IsClause xs → ((l : ℤ) → stands l xs ≡ true → l ≢ x → ⊥) →
    length xs < 2
one_literal xs x up only =
    let is : (i : ℕ) → i < length xs → get_or xs i (pos 0) ≡ x =
    λ i h. ⊎_elim (λ same. same) (λ ne.
    absurd (only (get_or xs i (pos 0)) (stands_at xs i h) ne))
    (cases_int (get_or xs i (pos 0)) x) in
    ⊎_elim (λ lt. lt)
    (λ ge. let far = ascend_apart 0 xs 0 1 up (omega arith) ge in
    let same : unsigned_abs (get_or xs 0 (pos 0)) ≡ unsigned_abs (get_or xs 1 (pos 0)) =
    ap unsigned_abs (is 0 (omega arith) ∙ sym (is 1 ge)) in
    absurd (omega (arith, far)))
    (cases_lt (length xs) 2)

-- no variable stands in a clause in both polarities
pub one_sign : (l : ℤ) (xs : List ℤ) → IsClause xs → stands l xs ≡ true →
    stands (neg_ℤ l) xs ≡ true → ⊥
one_sign l xs up e f =
    let p = place_of l xs e in
    let q = place_of (neg_ℤ l) xs f in
    let small : p.0 < length xs = p.1 in
    let below : q.0 < length xs = q.1 in
    let size : unsigned_abs (get_or xs q.0 (pos 0)) ≡ unsigned_abs (get_or xs p.0 (pos 0)) =
    ap unsigned_abs q.2 ∙ unsigned_abs-neg l ∙ ap unsigned_abs (sym p.2) in
    ⊎_elim
    (λ same. not_own_negation l (above 0 l xs up e) (sym p.2
    ∙ ap (λ z. get_or xs z (pos 0)) same ∙ q.2))
    (λ other. ⊎_elim
    (λ lt. let far = ascend_apart 0 xs p.0 q.0 up lt below in absurd (omega (arith, far)))
    (λ gt. let far = ascend_apart 0 xs q.0 p.0 up gt small in absurd (omega (arith, far)))
    other)
    (cases_order p.0 q.0)

pub clause_some : (xs : List ℤ) (i : ℕ) → IsClause xs → i < length xs →
    0 < unsigned_abs (get_or xs i (pos 0))
clause_some xs i up h = (ascend_at 0 xs i up h).0

pub clause_small : (xs : List ℤ) (i : ℕ) → IsClause xs → i < length xs →
    unsigned_abs (get_or xs i (pos 0)) < 2 ^ 31
clause_small xs i up h = (ascend_at 0 xs i up h).1

pub of_neg : (variables : ℕ) (l : ℤ) → IsOf variables l → IsOf variables (neg_ℤ l)
of_neg variables l h =
    let size : unsigned_abs (neg_ℤ l) ≡ unsigned_abs l = unsigned_abs-neg l in
    let low : 0 < unsigned_abs l = h.0 in let high : unsigned_abs l ≤ variables = h.1 in
    (omega arith, omega arith)

pub of_member : (variables : ℕ) (clause : List ℤ) (l : ℤ) → IsClauseOf variables clause →
    stands l clause ≡ true → IsOf variables l
of_member variables clause l c e = (above 0 l clause c.normal e, c.within l e)

pub of_at : (variables : ℕ) (clause : List ℤ) (i : ℕ) → IsClauseOf variables clause →
    i < length clause → IsOf variables (get_or clause i (pos 0))
of_at variables clause i c h =
    of_member variables clause (get_or clause i (pos 0)) c (stands_at clause i h)

pub of_neg_at : (variables : ℕ) (clause : List ℤ) (i : ℕ) → IsClauseOf variables clause →
    i < length clause → IsOf variables (neg_ℤ (get_or clause i (pos 0)))
of_neg_at variables clause i c h =
    of_neg variables (get_or clause i (pos 0)) (of_at variables clause i c h)

pub of_each : (variables : ℕ) (clause : List ℤ) → IsClauseOf variables clause →
    All (IsOf variables) clause
of_each variables clause c =
    All-from_get_or (IsOf variables) clause (pos 0) (λ i h. of_at variables clause i c h)

pub others_false_from_All : (literals clause : List ℤ) (left : ℤ) →
    All (λ l. l ≢ left → stands (neg_ℤ l) literals ≡ true) clause →
    OthersFalse literals clause left
others_false_from_All literals clause left each l member =
    let p = place_of l clause member in
    subst (λ z. z ≢ left → stands (neg_ℤ z) literals ≡ true) p.2 (each p.0 (pos 0) p.1)

-- the literals at these places are false
abbrev FalseBetween : List ℤ → List ℤ → ℕ → ℕ → Type 0
FalseBetween clause literals from to =
    (i : ℕ) → from ≤ i → i < to → stands (neg_ℤ (get_or clause i (pos 0))) literals ≡ true

pub all_false : (clause literals : List ℤ) → FalseBetween clause literals 0 (length clause) →
    AllFalse literals clause
all_false clause literals f l e =
    let p = place_of l clause e in
    subst (λ z. stands (neg_ℤ z) literals ≡ true) p.2 (f p.0 (omega arith) p.1)

pub slice_get_at : {X : Type 0} (xs : List X) (i : ℕ) (d : X) → i < length xs →
    slice_get xs i ≡ Some (get_or xs i d)
slice_get_at [] i d h = absurd (omega arith)
slice_get_at (x ∷ xs) zero d h = refl
slice_get_at (x ∷ xs) (suc i) d h = slice_get_at xs i d (omega arith)

pub get_at : {X : Type 0} (xs : List X) (i : ℕ) (x : X) → slice_get xs i ≡ Some x →
    (i < length xs) × (get_or xs i x ≡ x)
get_at [] i x e = absurd (cc)
get_at (y ∷ xs) zero x e = (omega arith, cc)
get_at (y ∷ xs) (suc i) x e =
    let r = get_at xs i x e in let small : i < length xs = r.0 in (omega arith, r.1)

pub numbered_at : (clauses : List (List ℤ)) (i : ℕ) → i < length clauses →
    numbered clauses (i + 1) ≡ Some (get_or clauses i [])
numbered_at clauses i h = rw add-one (slice_get_at clauses i [] h)

-- a numbered clause stands at the place before its number
pub numbered_place : (clauses : List (List ℤ)) (number : ℕ) (clause : List ℤ) →
    numbered clauses number ≡ Some clause → (0 < number) × (number - 1 < length clauses)
    × (get_or clauses (number - 1) [] ≡ clause)
numbered_place clauses zero clause e = absurd (cc)
numbered_place clauses (suc n) clause e =
    let r = get_at clauses n clause e in
    let small : n < length clauses = r.0 in
    let at : suc n - 1 ≡ n = omega arith in (
      omega arith,
      omega arith,
      ap (λ z. get_or clauses z []) at
          ∙ get_or_default clauses n [] clause small ∙ r.1,
    )

pub implies_at : (clauses : List (List ℤ)) (place : ℕ) (literals : List ℤ) (literal : ℤ)
    → place < length clauses
    → stands literal (get_or clauses place []) ≡ true
    → OthersFalse literals (get_or clauses place []) literal
    → Implies clauses (place + 1) literals literal
implies_at clauses place literals literal h member others =
    record {
      clause = get_or clauses place [];
      is = numbered_at clauses place h;
      member = member;
      others = others;
    }
