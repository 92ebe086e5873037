-- What unit resolution shows.
use Rattle.std.proofs.Common.{◌≡◌, ◌≢◌, ℕ, zero, suc, Bool, true, false, ℤ, neg_ℤ, List, [], ◌∷◌}
use Rattle.std.proofs.Common.{sym, ap, ◌∙◌, subst, ⊎_elim, inl, inr, ◌⊎◌, Any, Contains, Some}
use Rattle.std.proofs.Common.{slice_get, length, take, arith}
use Rattle.std.proofs.lemmas.Bool.{false≢true, or_cases, or_left, or_right}
use Rattle.std.proofs.lemmas.List.Elements.{All-contains}
use Rattle.std.specs.Ordering.{int_eq}
use Rattle.std.proofs.lemmas.List.{take_all}
use Rattle.sv_clause.specs.Literals.{stands, literal_true, clause_true, Satisfies, HaveNoSolution}
use Rattle.sv_clause.specs.Units.{IsOpen, HasOneIn, HasTwoOpen, IsAtRest, ShowsNew, IsNew, IsForced}
use Rattle.sv_clause.specs.Units.{IsUnitConflict}
use Rattle.sv_clause.proofs.Standing.{found_by, cases_int, same_from_int_eq}
use Rattle.sv_clause.proofs.Truth.{not_both_true}

-- a literal and its negation do not both stand in a list at rest
at_rest_not_both : (clauses : List (List ℤ)) (literals : List ℤ) (l : ℤ) →
    IsAtRest clauses literals → stands l literals ≡ true → stands (neg_ℤ l) literals ≡ true → ⊥
at_rest_not_both clauses literals l r e f = false≢true (sym (r.consistent l e) ∙ f)

-- an open literal of a clause that the list shows to be new is the one left aside
open_is_left : (clauses : List (List ℤ)) (clause literals : List ℤ) (left l : ℤ) →
    ShowsNew clauses clause literals left → stands l clause ≡ true → IsOpen literals l → l ≡ left
open_is_left clauses clause literals left l n e o =
    ⊎_elim (λ same. same) (λ ne. absurd (false≢true (sym o.1 ∙ n.others l e ne))) (cases_int l left)

pub no_earlier : (clauses : List (List ℤ)) (clause earlier : List ℤ) → IsNew clauses clause →
    Contains clauses earlier → ((l : ℤ) → stands l earlier ≡ true → stands l clause ≡ true) → ⊥
no_earlier clauses clause earlier (literals, left, n) at within =
    ⊎_elim
    (λ one. ⊎_elim
    (λ same. false≢true (sym n.open_left.0 ∙ subst (λ z. stands z literals ≡ true) same one.2))
    (λ ne. at_rest_not_both clauses literals one.0 n.rest one.2
    (n.others one.0 (within one.0 one.1) ne))
    (cases_int one.0 left))
    (λ two. two.2 (open_is_left clauses clause literals left two.0 n (within two.0 two.3) two.5
    ∙ sym (open_is_left clauses clause literals left two.1 n (within two.1 two.4) two.6)))
    (All-contains (λ c. HasOneIn literals c ⊎ HasTwoOpen literals c) clauses earlier n.rest.each at)

-- the literals of the list are true
abbrev AllTrueIn : (ℕ → Bool) → List ℤ → Type 0
AllTrueIn values literals = (l : ℤ) → stands l literals ≡ true → literal_true values l ≡ true

stands_in_longer : (l : ℤ) (xs : List ℤ) (n : ℕ) → stands l (take (suc n) xs) ≡ true →
    (stands l (take n xs) ≡ true) ⊎ (slice_get xs n ≡ Some l)
stands_in_longer l [] n e = absurd (false≢true e)
stands_in_longer l (x ∷ xs) zero e =
    ⊎_elim (λ same. inr (ap Some (sym (same_from_int_eq l x same)))) (λ none.
    absurd (false≢true none)) (or_cases (int_eq l x) false e)
stands_in_longer l (x ∷ xs) (suc n) e =
    ⊎_elim (λ here. inl (or_left (int_eq l x) (stands l (take n xs)) here))
    (λ there. ⊎_elim (λ earlier. inl (or_right (int_eq l x) (stands l (take n xs)) earlier)) (λ at.
    inr at) (stands_in_longer l xs n there))
    (or_cases (int_eq l x) (stands l (take (suc n) xs)) e)

-- one of the clauses is true
true_one : (values : ℕ → Bool) (clauses : List (List ℤ)) (P : List ℤ → Type 0) →
    Satisfies values clauses → Any P clauses → (clause : List ℤ)
    × (clause_true values clause ≡ true) × P clause
true_one values clauses P h (k, clause, small, at, p) =
    (clause, subst (λ c. clause_true values c ≡ true) at (h k clause small), p)

forced_true : (values : ℕ → Bool) (clauses : List (List ℤ)) (literals : List ℤ) (l : ℤ) →
    Satisfies values clauses → AllTrueIn values literals → IsForced clauses literals l →
    literal_true values l ≡ true
forced_true values clauses literals l h earlier forced =
    let one = true_one values clauses (λ clause.
    (stands l clause ≡ true)
    × ((other : ℤ) → stands other clause ≡ true → other ≢ l →
    stands (neg_ℤ other) literals ≡ true)) h forced in
    let x = found_by (literal_true values) one.0 one.1 in
    ⊎_elim (λ same. subst (λ z. literal_true values z ≡ true) same x.2)
    (λ ne. absurd (not_both_true values x.0 x.2 (earlier (neg_ℤ x.0) (one.2.1 x.0 x.1 ne))))
    (cases_int x.0 l)

prefix_true : (values : ℕ → Bool) (clauses : List (List ℤ)) (literals : List ℤ) →
    Satisfies values clauses → IsUnitConflict clauses literals → (n : ℕ) →
    AllTrueIn values (take n literals)
prefix_true values clauses literals h c zero = λ l e. absurd (false≢true e)
prefix_true values clauses literals h c (suc n) = λ l e.
    let earlier = prefix_true values clauses literals h c n in
    ⊎_elim (earlier l) (λ at.
    forced_true values clauses (take n literals) l h earlier (c.each n l at))
    (stands_in_longer l literals n e)

pub conflict_false : (clauses : List (List ℤ)) (literals : List ℤ) →
    IsUnitConflict clauses literals → HaveNoSolution clauses
conflict_false clauses literals c values h =
    let one = true_one values clauses (λ clause.
    (l : ℤ) → stands l clause ≡ true → stands (neg_ℤ l) literals ≡ true) h c.conflict in
    let x = found_by (literal_true values) one.0 one.1 in
    let all : AllTrueIn values literals =
    subst (AllTrueIn values) (take_all (length literals) literals (omega arith))
    (prefix_true values clauses literals h c (length literals)) in
    not_both_true values x.0 x.2 (all (neg_ℤ x.0) (one.2 x.0 x.1))
