-- Clauses of one literal, which is made true before any decision.
use Rattle.std.proofs.Common.{◌≡◌, ℕ, ◌+◌, ◌<◌, ◌≤◌, true, ℤ, List, [], ◌∷◌, ◌++◌, refl, ap, ◌∙◌}
use Rattle.std.proofs.Common.{subst, ⊎_elim, length, take, get_or, set, arith}
use Rattle.std.proofs.lemmas.Bool.{cases_lt}
use Rattle.std.proofs.lemmas.List.{get_or_default, take_at, length_push}
use Rattle.sv_clause.specs.Literals.{stands}
use Rattle.sv_clause.specs.Units.{HasOneIn}
use Rattle.sv_solve.specs.Lists.{Assigned}
use Rattle.sv_solve.specs.Search.{Implies, ImpliedFrom}
use Rattle.sv_solve.specs.Watching.{UnitsTrue}
use Rattle.sv_solve.proofs.Places.{stands_push_new}
use Rattle.sv_solve.proofs.Clauses.{implies_at}
use Rattle.sv_solve.proofs.Trails.{implied_push}
use Rattle.sv_solve.proofs.Levels.{within_longer}
use Rattle.sv_solve.proofs.TakenUp.{two_members}

-- each clause before a place that has fewer than two literals has a true one
abbrev pub UnitsBelow : List (List ℤ) → List ℤ → ℕ → Type 0
UnitsBelow clauses literals n =
    (i : ℕ) → i < n → length (get_or clauses i []) < 2 → HasOneIn literals (get_or clauses i [])

pub units_of : (clauses : List (List ℤ)) (literals : List ℤ) (n : ℕ) → length clauses ≤ n →
    UnitsBelow clauses literals n → UnitsTrue clauses literals
units_of clauses literals n all units k d h short =
    subst (HasOneIn literals) (get_or_default clauses k [] d h)
    (units k (omega arith) (subst (λ z. length z < 2) (get_or_default clauses k d [] h) short))

-- a clause of one literal makes it true
pub units_push : (clauses : List (List ℤ)) (trail now : Assigned) (clause : List ℤ) (l : ℤ) (n : ℕ)
    → n < length clauses → clause ≡ get_or clauses n [] → length clause < 2 → stands l clause ≡ true
    → now.literals ≡ trail.literals ++ l ∷ []
    → now.reasons ≡ set trail.reasons (length trail.literals) (n + 1)
    → length trail.literals < length now.reasons → ImpliedFrom clauses trail 0
    → UnitsBelow clauses trail.literals n
    → ImpliedFrom clauses now 0 × UnitsBelow clauses now.literals (n + 1)
units_push clauses trail now clause l n h at short member is set_is room implied units =
    let here = get_or clauses n [] in
    let there : stands l here ≡ true = subst (λ z. stands l z ≡ true) at member in
    let few : length here < 2 = subst (λ z. length z < 2) at short in
    let reason : Implies clauses (n + 1) trail.literals l =
    implies_at clauses n trail.literals l h there (λ x e ne.
    absurd (let long : 2 ≤ length here = two_members here x l ne e there in omega arith)) in
    let size : length now.literals ≡ length trail.literals + 1 =
    ap length is ∙ length_push trail.literals l in
    let older : take (length trail.literals) now.literals ≡ trail.literals =
    ap (take (length trail.literals)) is
    ∙ take_at trail.literals (l ∷ []) (length trail.literals) refl in (
      implied_push clauses trail now l (n + 1) is set_is room reason 0 implied,
      λ i low one. ⊎_elim
          (λ less. let u = units i less one in
          (u.0, u.1, within_longer trail.literals now.literals older u.0 u.2))
          (λ ge. let same : n ≡ i = omega arith in (
            l,
            subst (λ z. stands l (get_or clauses z []) ≡ true) same there,
            ap (stands l) is
                ∙ stands_push_new l trail.literals,
          ))
          (cases_lt i n),
    )
