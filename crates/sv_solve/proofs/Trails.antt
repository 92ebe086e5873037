-- Trails: literals that were made true one after another.
use Rattle.std.proofs.Common.{◌≡◌, ℕ, ◌+◌, ◌<◌, ◌≤◌, true, false, ℤ, pos, neg_ℤ, unsigned_abs, List}
use Rattle.std.proofs.Common.{[], ◌∷◌, ◌++◌, sym, ap, ◌∙◌, subst, ⊎_elim, length, take, get_or, set}
use Rattle.std.proofs.Common.{arith, length-set}
use Rattle.std.specs.Prelude.{All}
use Rattle.std.proofs.lemmas.Bool.{false≢true, false_from_ne_true, cases_order}
use Rattle.std.proofs.lemmas.List.{get_or-set_same, get_or-set_other, get_or_append_left}
use Rattle.std.proofs.lemmas.List.{take-append-le, get_or_push, take_at, length_push, take-take}
use Rattle.std.proofs.lemmas.List.{get_or-take, length-take-le}
use Rattle.sv_clause.specs.Literals.{stands}
use Rattle.sv_clause.specs.Units.{IsAtRest}
use Rattle.sv_clause.proofs.Merging.{neg-neg, not_own_negation}
use Rattle.sv_solve.specs.Lists.{Assigned, EachOpen}
use Rattle.sv_solve.specs.Search.{IsSettled, Implies, ImpliedFrom, IsConsistent}
use Rattle.sv_solve.proofs.Places.{place_of, stands_is}

-- what stands at an earlier place stands among the literals before a later one
pub stands_before : (xs : List ℤ) (i j : ℕ) (l : ℤ) → i < j → j ≤ length xs →
    get_or xs i (pos 0) ≡ l → stands l (take j xs) ≡ true
stands_before xs i j l lt h e =
    stands_is l (take j xs) i (let n : length (take j xs) ≡ j = length-take-le j xs h in
    omega arith) (get_or-take j xs i (pos 0) lt ∙ e)

pub consistent_from : (xs : List ℤ) → EachOpen xs →
    ((l : ℤ) → stands l xs ≡ true → 0 < unsigned_abs l) → IsConsistent xs
consistent_from xs o some l e =
    false_from_ne_true (stands (neg_ℤ l) xs)
    (λ f. let p = place_of l xs e in let q = place_of (neg_ℤ l) xs f in
    let small : p.0 < length xs = p.1 in
    let below : q.0 < length xs = q.1 in
    ⊎_elim
    (λ same. not_own_negation l (some l e) (sym p.2 ∙ ap (λ z. get_or xs z (pos 0)) same ∙ q.2))
    (λ other. ⊎_elim
    (λ lt. false≢true (sym (subst (λ z. stands (neg_ℤ z) (take q.0 xs) ≡ false) q.2 (o q.0 below).1)
    ∙ ap (λ z. stands z (take q.0 xs)) (neg-neg l)
    ∙ stands_before xs p.0 q.0 l lt (omega arith) p.2))
    (λ gt. false≢true (sym (subst (λ z. stands (neg_ℤ z) (take p.0 xs) ≡ false) p.2 (o p.0 small).1)
    ∙ stands_before xs q.0 p.0 (neg_ℤ l) gt (omega arith) q.2))
    other)
    (cases_order p.0 q.0))

pub at_rest : (clauses : List (List ℤ)) (literals : List ℤ) → IsConsistent literals →
    All (IsSettled literals) clauses → IsAtRest clauses literals
at_rest clauses literals c all = record { consistent = c; each = all }

-- a trail that goes on from one that goes on
pub older_more : (first cur new : List ℤ) → take (length first) cur ≡ first →
    take (length cur) new ≡ cur → length first ≤ length cur → take (length first) new ≡ first
older_more first cur new e f h =
    sym (take-take (length first) (length cur) new h) ∙ ap (take (length first)) f ∙ e

module _ (clauses : List (List ℤ)) where
  implied_at : (reasons reasons' : List ℕ) (xs xs' : List ℤ) (i : ℕ)
      → get_or reasons' i 0 ≡ get_or reasons i 0 → take i xs' ≡ take i xs
      → get_or xs' i (pos 0) ≡ get_or xs i (pos 0)
      → Implies clauses (get_or reasons i 0) (take i xs) (get_or xs i (pos 0))
      → Implies clauses (get_or reasons' i 0) (take i xs') (get_or xs' i (pos 0))
  implied_at reasons reasons' xs xs' i a b d h =
      subst (λ z. Implies clauses z (take i xs') (get_or xs' i (pos 0))) (sym a)
      (subst (λ z. Implies clauses (get_or reasons i 0) z (get_or xs' i (pos 0))) (sym b)
      (subst (λ z. Implies clauses (get_or reasons i 0) (take i xs) z) (sym d) h))

  implied_push_at : (old : Assigned) (reasons : List ℕ) (literals : List ℤ) (l : ℤ) (n : ℕ)
      → literals ≡ old.literals ++ l ∷ [] → reasons ≡ set old.reasons (length old.literals) n
      → length old.literals < length reasons
      → Implies clauses n old.literals l → (from : ℕ) → ImpliedFrom clauses old from → (i : ℕ)
      → from ≤ i → i < length literals
      → Implies clauses (get_or reasons i 0) (take i literals) (get_or literals i (pos 0))
  implied_push_at old reasons literals l n is set_is room new from h i low high =
      let size : length literals ≡ length old.literals + 1 =
      ap length is ∙ length_push old.literals l in
      let long : length reasons ≡ length old.reasons =
      ap length set_is ∙ length-set old.reasons (length old.literals) n in
      ⊎_elim
      (λ last.
      let reason : get_or reasons i 0 ≡ n =
      ap (λ z. get_or reasons z 0) last ∙ ap (λ z. get_or z (length old.literals) 0) set_is
      ∙ get_or-set_same old.reasons (length old.literals) n 0 (omega arith) in
      let before : take i literals ≡ old.literals =
      ap (take i) is ∙ take_at old.literals (l ∷ []) i (sym last) in
      let here : get_or literals i (pos 0) ≡ l =
      ap (λ z. get_or z i (pos 0)) is ∙ get_or_push old.literals l (pos 0) i (sym last) in
      subst (λ z. Implies clauses z (take i literals) (get_or literals i (pos 0))) (sym reason)
      (subst (λ z. Implies clauses n z (get_or literals i (pos 0))) (sym before)
      (subst (λ z. Implies clauses n old.literals z) (sym here) new)))
      (λ other. let below : i < length old.literals = ⊎_elim (λ lt. lt) (λ gt.
      absurd (omega arith)) other in
      implied_at old.reasons reasons old.literals literals i
      (ap (λ z. get_or z i 0) set_is
      ∙ get_or-set_other old.reasons (length old.literals) i n 0 (λ e. absurd (omega arith)))
      (ap (take i) is ∙ take-append-le i old.literals (l ∷ []) (omega arith))
      (ap (λ z. get_or z i (pos 0)) is ∙ get_or_append_left old.literals (l ∷ []) (pos 0) i below)
      (h i low below))
      (cases_order i (length old.literals))

  pub implied_push : (old new : Assigned) (l : ℤ) (n : ℕ) → new.literals ≡ old.literals ++ l ∷ []
      → new.reasons ≡ set old.reasons (length old.literals) n
      → length old.literals < length new.reasons
      → Implies clauses n old.literals l → (from : ℕ) → ImpliedFrom clauses old from
      → ImpliedFrom clauses new from
  implied_push old new l n is set_is room h from all i low high =
      implied_push_at old new.reasons new.literals l n is set_is room h from all i low high

  -- from past the new literal on nothing has to be shown
  pub implied_past : (trail : Assigned) (from : ℕ) → length trail.literals ≤ from →
      ImpliedFrom clauses trail from
  implied_past trail from h i low high = absurd (omega arith)
