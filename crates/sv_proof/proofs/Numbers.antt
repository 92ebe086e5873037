-- The clause of a number, among the clauses and those of the steps.
use Rattle.std.proofs.Common.{◌≡◌, ℕ, zero, suc, ◌+◌, ◌-◌, ◌<◌, ◌≤◌, ℤ, List, [], ◌∷◌, ◌++◌, refl}
use Rattle.std.proofs.Common.{sym, ap, ◌∙◌, subst, map, take, length, get_or, Some, None, slice_get}
use Rattle.std.proofs.Common.{IsSomeAnd, Bool, true, eqb, arith}
use Rattle.std.proofs.lemmas.List.{append_assoc, append-nil, take-map, take_more, take_all}
use Rattle.std.proofs.lemmas.List.{length-map, get_or-map, nil_from_length}
use Rattle.std.proofs.lemmas.Bool.{eqb-true, eq-eqb}
use Rattle.std.specs.Option.{option_map}
use Rattle.std.proofs.lemmas.Option.{slice_get_past, slice_get-get_or, slice_get-map}
use Rattle.sv_clause.specs.Logs.{Step, plain_step, clauses_of, numbered, ResolvesTo, ChainGives}
use Rattle.sv_clause.specs.Logs.{IsDerived, AllDerived, EndsEmpty}
use Rattle.sv_clause.specs.declared.logs.Derived.{Derived}
use Rattle.sv_proof.specs.Checking.{IsFirstUnderived}

pub numbered_at : (clauses : List (List ℤ)) (n : ℕ) → 0 < n →
    numbered clauses n ≡ slice_get clauses (n - 1)
numbered_at clauses zero h = absurd (omega arith)
numbered_at clauses (suc n) h = ap (slice_get clauses) (omega arith)

pub slice_get_right : {X : Type 0} (xs ys : List X) (i : ℕ) → length xs ≤ i →
    slice_get (xs ++ ys) i ≡ slice_get ys (i - length xs)
slice_get_right [] ys i h = ap (slice_get ys) (omega arith)
slice_get_right (x ∷ xs) ys zero h = absurd (omega arith)
slice_get_right (x ∷ xs) ys (suc i) h =
    slice_get_right xs ys i (omega arith) ∙ ap (slice_get ys) (omega arith)

pub slice_get_left : {X : Type 0} (xs ys : List X) (i : ℕ) → i < length xs →
    slice_get (xs ++ ys) i ≡ slice_get xs i
slice_get_left [] ys i h = absurd (omega arith)
slice_get_left (x ∷ xs) ys zero h = refl
slice_get_left (x ∷ xs) ys (suc i) h = slice_get_left xs ys i (omega arith)

pub clause_at : (steps : List Derived) (i : ℕ) (d : Derived) → i < length steps →
    d ≡ get_or steps i d → slice_get (clauses_of (map plain_step steps)) i ≡ Some d.clause
clause_at [] i d h e = absurd (omega arith)
clause_at (s ∷ steps) zero d h e = ap (λ z. Some z.clause) (sym e)
clause_at (s ∷ steps) (suc i) d h e = clause_at steps i d (omega arith) e

pub length_clauses : (steps : List Derived) →
    length (clauses_of (map plain_step steps)) ≡ length steps
length_clauses [] = refl
length_clauses (s ∷ steps) = ap suc (length_clauses steps)

pub numbered_step : (clauses : List (List ℤ)) (steps : List Derived) (n : ℕ) (d : Derived) → 0 < n
    → length clauses ≤ n - 1 → n - 1 - length clauses < length steps
    → d ≡ get_or steps (n - 1 - length clauses) d
    → Some d.clause ≡ numbered (clauses ++ clauses_of (map plain_step steps)) n
numbered_step clauses steps n d positive past inside e =
    sym (numbered_at (clauses ++ clauses_of (map plain_step steps)) n positive
    ∙ slice_get_right clauses (clauses_of (map plain_step steps)) (n - 1) past
    ∙ clause_at steps (n - 1 - length clauses) d inside e)

pub numbered_past : (clauses : List (List ℤ)) (steps : List Derived) (n : ℕ) → 0 < n
    → length clauses ≤ n - 1 → length steps ≤ n - 1 - length clauses
    → None ≡ numbered (clauses ++ clauses_of (map plain_step steps)) n
numbered_past clauses steps n positive past outside =
    sym (numbered_at (clauses ++ clauses_of (map plain_step steps)) n positive
    ∙ slice_get_right clauses (clauses_of (map plain_step steps)) (n - 1) past
    ∙ slice_get_past (clauses_of (map plain_step steps)) (n - 1 - length clauses)
    (let same = length_clauses steps in omega arith))

-- one more step
pub AllDerived-push : (clauses : List (List ℤ)) (steps : List Step) (s : Step) →
    AllDerived clauses steps → IsDerived (clauses ++ clauses_of steps) s →
    AllDerived clauses (steps ++ s ∷ [])
AllDerived-push clauses [] s h d = (subst (λ z. IsDerived z s) (append-nil clauses) d, tt)
AllDerived-push clauses (x ∷ steps) s h d = (
  h.0,
  AllDerived-push (clauses ++ x.clause ∷ []) steps s h.1
      (subst (λ z. IsDerived z s)
      (sym (append_assoc clauses (x.clause ∷ []) (clauses_of steps))) d),
)

module _ (clauses : List (List ℤ)) (steps : List Derived) (i : ℕ) (d : Derived)
    (inside : i < length steps) (is : d ≡ get_or steps i d)
    (before : AllDerived clauses (take i (map plain_step steps))) where
  earlier_is : map plain_step (take i steps) ≡ take i (map plain_step steps)
  earlier_is = sym (take-map plain_step i steps)

  step_is : get_or (map plain_step steps) i (plain_step d) ≡ plain_step d
  step_is = get_or-map plain_step steps i d (plain_step d) inside ∙ ap plain_step (sym is)

  pub all_derived_more :
      IsDerived (clauses ++ clauses_of (map plain_step (take i steps))) (plain_step d) →
      AllDerived clauses (take (i + 1) (map plain_step steps))
  all_derived_more derived =
      let within : i < length (map plain_step steps) = let same = length-map steps plain_step in
      omega arith in
      let longer : take (i + 1) (map plain_step steps) ≡
      take i (map plain_step steps) ++ plain_step d ∷ [] =
      take_more (map plain_step steps) i (plain_step d) within
      ∙ ap (λ z. take i (map plain_step steps) ++ z ∷ []) step_is in
      subst (AllDerived clauses) (sym longer)
      (AllDerived-push clauses (take i (map plain_step steps)) (plain_step d) before
      (subst (λ z. IsDerived (clauses ++ clauses_of z) (plain_step d)) earlier_is derived))

  pub first_underived :
      (IsDerived (clauses ++ clauses_of (map plain_step (take i steps))) (plain_step d) → ⊥) →
      IsFirstUnderived clauses (map plain_step steps) i
  first_underived not_derived =
      record {
        inside = let same = length-map steps plain_step in omega arith;
        before = before;
        underived = λ step at derived.
            let within : i < length (map plain_step steps) = let same =
            length-map steps plain_step in omega arith in
            let found : Some step ≡ Some (plain_step d) =
            sym at ∙ slice_get-get_or (map plain_step steps) i (plain_step d) within
            ∙ ap Some step_is in
            let same : step ≡ plain_step d = cc in
            not_derived (subst (λ z.
            IsDerived (clauses ++ clauses_of z) (plain_step d)) (sym earlier_is)
            (subst (λ z. IsDerived (clauses ++ clauses_of (take i (map plain_step steps))) z)
            same derived));
      }

pub all_derived_all : (clauses : List (List ℤ)) (steps : List Derived) (i : ℕ) → length steps ≤ i →
    AllDerived clauses (take i (map plain_step steps)) → AllDerived clauses (map plain_step steps)
all_derived_all clauses steps i past h =
    subst (AllDerived clauses)
    (take_all i (map plain_step steps) (let same = length-map steps plain_step in omega arith)) h

-- a chain by its first number
pub chain_by_first : (all : List (List ℤ)) (chain rest : List ℕ) (n : ℕ) (from clause : List ℤ)
    → chain ≡ n ∷ rest → Some from ≡ numbered all n
    → (ResolvesTo all from rest clause → ChainGives all chain clause)
    × (ChainGives all chain clause → ResolvesTo all from rest clause)
chain_by_first all chain rest n from clause e at = (
  λ r. subst (λ z. ChainGives all z clause) (sym e) (from, sym at, r),
  λ g. let (other, at', r) = subst (λ z. ChainGives all z clause) e g in
      let found : Some other ≡ Some from = sym at' ∙ sym at in
      let same : other ≡ from = cc in
      subst (λ z. ResolvesTo all z rest clause) same r,
)

-- whether the log ends with the empty clause, by its last step
pub ends_empty_by_last : (steps : List Derived) (d : Derived) (empty : Bool)
    → Some d ≡ slice_get steps (length steps - 1) → empty ≡ eqb (length d.clause) 0
    → (empty ≡ true → EndsEmpty (map plain_step steps))
    × (EndsEmpty (map plain_step steps) → empty ≡ true)
ends_empty_by_last steps d empty at is =
    let last : slice_get (map plain_step steps) (length (map plain_step steps) - 1) ≡
    Some (plain_step d) =
    ap (λ n. slice_get (map plain_step steps) (n - 1)) (length-map steps plain_step)
    ∙ slice_get-map plain_step steps (length steps - 1) ∙ ap (option_map plain_step) (sym at) in
    let P : Step → Type 0 = λ s. s.clause ≡ [] in (
      λ yes. subst (λ o. IsSomeAnd o P) (sym last)
          (nil_from_length d.clause (eqb-true (length d.clause) 0 (sym is ∙ yes))),
      λ ends. let none : d.clause ≡ [] = subst (λ o. IsSomeAnd o P) last ends in
          is ∙ eq-eqb (length d.clause) 0 (ap length none),
    )
