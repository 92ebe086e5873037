-- Seeing the false literals of a clause one by one.
use Rattle.std.proofs.Common.{◌≡◌, ℕ, ◌+◌, ◌<◌, true, false, ◌&&◌, ◌||◌, ℤ, pos, neg_ℤ, List, []}
use Rattle.std.proofs.Common.{◌∷◌, ◌++◌, sym, ap, ◌∙◌, ⊎_elim, length, take, get_or, arith}
use Rattle.std.proofs.lemmas.Bool.{and_parts, and_from, and_right, or_left, or_right, or_cases}
use Rattle.sv_clause.specs.Literals.{stands}
use Rattle.sv_clause.proofs.Standing.{cases_int}
use Rattle.sv_solve.proofs.Places.{stands_more_cases, stands_more_other, stands_more_here}
use Rattle.sv_solve.proofs.Places.{stands_take_le, stands_push_cases, stands_push_old}
use Rattle.sv_solve.proofs.Places.{stands_push_new, same_tests}

module _ (old clause trail : List ℤ) where
  -- these are the old literals and the false ones among the first of the clause
  abbrev IsSeen : List ℤ → ℕ → Type 0
  IsSeen seen i =
      (l : ℤ) → stands l seen ≡
      (stands l old || (stands l (take i clause) && stands (neg_ℤ l) trail))

  more : (l : ℤ) (i : ℕ) →
      (stands l old || (stands l (take i clause) && stands (neg_ℤ l) trail)) ≡ true →
      (stands l old || (stands l (take (i + 1) clause) && stands (neg_ℤ l) trail)) ≡ true
  more l i e =
      ⊎_elim (or_left (stands l old) (stands l (take (i + 1) clause) && stands (neg_ℤ l) trail))
      (λ both. let q = and_parts (stands l (take i clause)) (stands (neg_ℤ l) trail) both in
      or_right (stands l old) (stands l (take (i + 1) clause) && stands (neg_ℤ l) trail)
      (and_from (stands l (take (i + 1) clause)) (stands (neg_ℤ l) trail)
      (stands_take_le l clause i (i + 1) (omega arith) q.0) q.1))
      (or_cases (stands l old) (stands l (take i clause) && stands (neg_ℤ l) trail) e)

  pub see_none : (seen : List ℤ) (i : ℕ) → i < length clause →
      stands (neg_ℤ (get_or clause i (pos 0))) trail ≡ false → IsSeen seen i → IsSeen seen (i + 1)
  see_none seen i small free h l =
      h l ∙ ap (λ z. stands l old || z)
      (⊎_elim
      (λ same. let none = ap (λ z. stands (neg_ℤ z) trail) same ∙ free in
      and_right (stands l (take i clause)) (stands (neg_ℤ l) trail) none
      ∙ sym (and_right (stands l (take (i + 1) clause)) (stands (neg_ℤ l) trail) none))
      (λ ne. ap (λ z. z && stands (neg_ℤ l) trail) (sym (stands_more_other l clause i small ne)))
      (cases_int l (get_or clause i (pos 0))))

  pub see_new : (seen now : List ℤ) (i : ℕ) → i < length clause →
      stands (neg_ℤ (get_or clause i (pos 0))) trail ≡ true →
      now ≡ seen ++ get_or clause i (pos 0) ∷ [] → IsSeen seen i → IsSeen now (i + 1)
  see_new seen now i small wrong is h l =
      let x = get_or clause i (pos 0) in
      let all = stands l (take (i + 1) clause) && stands (neg_ℤ l) trail in
      ap (stands l) is ∙ same_tests (stands l (seen ++ x ∷ [])) (stands l old || all)
      (λ e. ⊎_elim
      (λ was. more l i (sym (h l) ∙ was))
      (λ same. or_right (stands l old) all
      (and_from (stands l (take (i + 1) clause)) (stands (neg_ℤ l) trail)
      (ap (λ z. stands z (take (i + 1) clause)) same ∙ stands_more_here clause i small)
      (ap (λ z. stands (neg_ℤ z) trail) same ∙ wrong)))
      (stands_push_cases l x seen e))
      (λ e. ⊎_elim
      (λ o. stands_push_old l x seen
      (h l ∙ or_left (stands l old) (stands l (take i clause) && stands (neg_ℤ l) trail) o))
      (λ both. let q = and_parts (stands l (take (i + 1) clause)) (stands (neg_ℤ l) trail) both in
      ⊎_elim
      (λ older. stands_push_old l x seen
      (h l ∙ or_right (stands l old) (stands l (take i clause) && stands (neg_ℤ l) trail)
      (and_from (stands l (take i clause)) (stands (neg_ℤ l) trail) older q.1)))
      (λ same. ap (λ z. stands z (seen ++ x ∷ [])) same ∙ stands_push_new x seen)
      (stands_more_cases l clause i small q.0))
      (or_cases (stands l old) all e))
