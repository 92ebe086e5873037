-- What the solver knows as it learns, and what it shows at the end.
use Rattle.std.proofs.Common.{◌≡◌, ◌≢◌, ℕ, zero, suc, ◌+◌, ◌-◌, ◌<◌, ◌≤◌, ◌^◌, Bool, true, false, ℤ}
use Rattle.std.proofs.Common.{pos, negsuc, neg_ℤ, unsigned_abs, List, [], ◌∷◌, ◌++◌, sym, ap, ◌∙◌}
use Rattle.std.proofs.Common.{subst, inl, inr, ◌⊎◌, ⊎_elim, length, take, get_or, arith, Some}
use Rattle.std.proofs.Common.{slice_get, add-one, min}
use Rattle.std.specs.Prelude.{All, Contains}
use Rattle.std.proofs.lemmas.Bool.{false≢true, cases_order, cases_lt, not_from_false}
use Rattle.std.proofs.lemmas.List.{get_or-append-add, append-nil, append_assoc, map-append}
use Rattle.std.proofs.lemmas.List.{length_push, take-append-le, take_at, length-append, length-map}
use Rattle.std.proofs.lemmas.List.{get_or-map, take_all, get_or_push, get_or_append_left}
use Rattle.std.proofs.lemmas.List.{length-take-le, get_or-take}
use Rattle.std.proofs.lemmas.List.Elements.{All-push, Contains-append_right, Contains-get_or}
use Rattle.sv_clause.specs.Literals.{stands, IsClause, literal_true, clause_true, Satisfies}
use Rattle.sv_clause.specs.Logs.{Step, clauses_of, IsDerived, AllDerived, EndsEmpty, Refutes}
use Rattle.sv_clause.specs.Units.{IsOpen, IsAtRest, IsNew, IsForced, IsUnitConflict, IsSpentLog}
use Rattle.sv_clause.proofs.Standing.{cases_int, any_from}
use Rattle.sv_clause.proofs.UnitLaws.{no_earlier}
use Rattle.sv_solve.specs.Codes.{IsOf}
use Rattle.sv_solve.specs.Lists.{Assigned, AllAssigned}
use Rattle.sv_solve.specs.Search.{IsClauseOf, IsSettled}
use Rattle.sv_solve.specs.Known.{Known, clauses_known, EachNew, IsKnown}
use Rattle.sv_solve.specs.Answers.{IsWithin, value_of, OnlyLastIsEmpty, AreDifferent}
use Rattle.sv_solve.specs.Values.{AreValues}
use Rattle.sv_solve.proofs.Clauses.{slice_get_at, get_at, of_member, clause_small}
use Rattle.sv_solve.proofs.Counting.{steps_below}
use Rattle.sv_solve.proofs.Places.{stands_more_cases, place_of}

clauses_of_push : (steps : List Step) (step : Step) →
    clauses_of (steps ++ step ∷ []) ≡ clauses_of steps ++ step.clause ∷ []
clauses_of_push steps step = map-append (λ s. s.clause) steps (step ∷ [])

pub derived_push : (given : List (List ℤ)) (steps : List Step) (step : Step) →
    AllDerived given steps → IsDerived (given ++ clauses_of steps) step →
    AllDerived given (steps ++ step ∷ [])
derived_push given [] step d new = (subst (λ z. IsDerived z step) (append-nil given) new, tt)
derived_push given (s ∷ steps) step d new = (
  d.0,
  derived_push (given ++ s.clause ∷ []) steps step d.1
      (subst (λ z. IsDerived z step)
      (sym (append_assoc given (s.clause ∷ []) (clauses_of steps))) new),
)

new_at : (given : List (List ℤ)) (steps : List Step) (step s : Step) (i : ℕ) → EachNew given steps
    → IsNew (given ++ clauses_of steps) step.clause
    → i < length (steps ++ step ∷ []) → get_or (steps ++ step ∷ []) i s ≡ s
    → IsNew (given ++ clauses_of (take i (steps ++ step ∷ []))) s.clause
new_at given steps step s i each new h at =
    let size : length (steps ++ step ∷ []) ≡ length steps + 1 = length_push steps step in
    ⊎_elim
    (λ last. let same : step ≡ s = sym (get_or_push steps step s i (sym last)) ∙ at in
    subst (λ z. IsNew (given ++ clauses_of (take i (steps ++ step ∷ []))) z.clause) same
    (subst (λ z. IsNew (given ++ clauses_of z) step.clause)
    (sym (take_at steps (step ∷ []) i (sym last))) new))
    (λ other. let below : i < length steps = ⊎_elim (λ lt. lt) (λ gt. absurd (omega arith)) other in
    subst (λ z. IsNew (given ++ clauses_of z) s.clause)
    (sym (take-append-le i steps (step ∷ []) (omega arith)))
    (each i s (slice_get_at steps i s below
    ∙ ap Some (sym (get_or_append_left steps (step ∷ []) s i below) ∙ at))))
    (cases_order i (length steps))

pub each_new_push : (given : List (List ℤ)) (steps : List Step) (step : Step) →
    EachNew given steps → IsNew (given ++ clauses_of steps) step.clause →
    EachNew given (steps ++ step ∷ [])
each_new_push given steps step each new i s e =
    let r = get_at (steps ++ step ∷ []) i s e in new_at given steps step s i each new r.0 r.1

pub known_learn : (known next : Known) (kept now : List (List ℤ)) (step : Step) → IsKnown known kept
    → next.given ≡ known.given → next.steps ≡ known.steps ++ step ∷ []
    → next.variables ≡ known.variables → now ≡ kept ++ step.clause ∷ []
    → IsDerived (clauses_known known) step → IsNew (clauses_known known) step.clause
    → IsClauseOf known.variables step.clause → IsKnown next now
known_learn known next kept now step k given steps variables is derived new of =
    record {
      kept_is =
          is ∙ ap (λ z. z ++ step.clause ∷ []) k.kept_is
          ∙ append_assoc known.given (clauses_of known.steps) (step.clause ∷ [])
          ∙ ap (λ z. known.given ++ z)
          (sym (ap clauses_of steps ∙ clauses_of_push known.steps step))
          ∙ ap (λ z. z ++ clauses_of next.steps) (sym given);
      of =
          subst (λ v. All (IsClauseOf v) now) (sym variables)
          (subst (All (IsClauseOf known.variables)) (sym is)
          (All-push (IsClauseOf known.variables) kept step.clause k.of of));
      derived =
          subst (λ z. AllDerived next.given z) (sym steps)
          (subst (λ z. AllDerived z (known.steps ++ step ∷ [])) (sym given)
          (derived_push known.given known.steps step k.derived derived));
      each_new =
          subst (λ z. EachNew next.given z) (sym steps)
          (subst (λ z. EachNew z (known.steps ++ step ∷ [])) (sym given)
          (each_new_push known.given known.steps step k.each_new new));
    }

-- a new clause has a literal
new_not_empty : (clauses : List (List ℤ)) (clause : List ℤ) → IsNew clauses clause → clause ≢ []
new_not_empty clauses clause (literals, left, n) e =
    false≢true (subst (λ z. stands left z ≡ true) e n.member)

pub steps_not_empty : (given : List (List ℤ)) (steps : List Step) → EachNew given steps →
    All (λ step. step.clause ≢ []) steps
steps_not_empty given steps each i d h =
    new_not_empty (given ++ clauses_of (take i steps)) (get_or steps i d).clause
    (each i (get_or steps i d) (slice_get_at steps i d h))

-- at rest, whatever unit resolution forces stands there already
forced_stands : (clauses : List (List ℤ)) (literals forced : List ℤ) (l : ℤ) →
    IsAtRest clauses literals → ((x : ℤ) → stands x forced ≡ true → stands x literals ≡ true) →
    IsForced clauses forced l → stands l literals ≡ true
forced_stands clauses literals forced l rest within (k, clause, small, at, unit) =
    let settled : IsSettled literals clause =
    subst (IsSettled literals) at (rest.each k clause small) in
    ⊎_elim
    (λ one. ⊎_elim (λ same. subst (λ z. stands z literals ≡ true) same one.2)
    (λ ne.
    absurd (false≢true (sym (rest.consistent one.0 one.2)
    ∙ within (neg_ℤ one.0) (unit.1 one.0 one.1 ne)))) (cases_int one.0 l))
    (λ two. ⊎_elim
    (λ same.
    absurd (false≢true (sym two.6.1
    ∙ within (neg_ℤ two.1) (unit.1 two.1 two.4 (λ e. two.2 (same ∙ sym e))))))
    (λ ne. absurd (false≢true (sym two.5.1 ∙ within (neg_ℤ two.0) (unit.1 two.0 two.3 ne))))
    (cases_int two.0 l))
    settled

-- what stands in one more literal stands in those before it, or is that one
stands_in_longer : (l : ℤ) (xs : List ℤ) (n : ℕ) → stands l (take (suc n) xs) ≡ true →
    (stands l (take n xs) ≡ true) ⊎ (slice_get xs n ≡ Some l)
stands_in_longer l xs n e =
    ⊎_elim
    (λ lt. ⊎_elim inl (λ same. inr (slice_get_at xs n (pos 0) lt ∙ ap Some (sym same)))
    (stands_more_cases l xs n lt (ap (λ z. stands l (take z xs)) (add-one n) ∙ e)))
    (λ ge. inl (ap (stands l) (take_all n xs ge)
    ∙ sym (ap (stands l) (take_all (suc n) xs (omega arith))) ∙ e))
    (cases_lt n (length xs))

conflict_within : (clauses : List (List ℤ)) (literals forced : List ℤ) → IsAtRest clauses literals →
    IsUnitConflict clauses forced → (n : ℕ) (l : ℤ) → stands l (take n forced) ≡ true →
    stands l literals ≡ true
conflict_within clauses literals forced rest c zero l e = absurd (false≢true e)
conflict_within clauses literals forced rest c (suc n) l e =
    ⊎_elim (conflict_within clauses literals forced rest c n l)
    (λ at. forced_stands clauses literals (take n forced) l rest
    (conflict_within clauses literals forced rest c n) (c.each n l at))
    (stands_in_longer l forced n e)

-- clauses at rest have no unit conflict
pub rest_no_conflict : (clauses : List (List ℤ)) (literals forced : List ℤ) →
    IsAtRest clauses literals → IsUnitConflict clauses forced → ⊥
rest_no_conflict clauses literals forced rest c =
    let within : (l : ℤ) → stands l forced ≡ true → stands l literals ≡ true =
    λ l e. conflict_within clauses literals forced rest c (length forced) l
    (ap (stands l) (take_all (length forced) forced (omega arith)) ∙ e) in
    let k = c.conflict in
    let settled : IsSettled literals k.1 = subst (IsSettled literals) k.3 (rest.each k.0 k.1 k.2) in
    ⊎_elim
    (λ one. false≢true (sym (rest.consistent one.0 one.2) ∙ within (neg_ℤ one.0) (k.4 one.0 one.1)))
    (λ two. false≢true (sym two.5.1 ∙ within (neg_ℤ two.0) (k.4 two.0 two.3)))
    settled

forced_more : (clauses more : List (List ℤ)) (literals : List ℤ) (l : ℤ) →
    IsForced clauses literals l → IsForced (clauses ++ more) literals l
forced_more clauses more literals l (k, clause, small, at, rest) =
    let size : length (clauses ++ more) ≡ length clauses + length more =
    length-append clauses more in
    (k, clause, omega arith, get_or_append_left clauses more clause k small ∙ at, rest)

-- a unit conflict of some clauses is one of more
pub conflict_more : (clauses more : List (List ℤ)) (literals : List ℤ) →
    IsUnitConflict clauses literals → IsUnitConflict (clauses ++ more) literals
conflict_more clauses more literals c =
    let k = c.conflict in
    let size : length (clauses ++ more) ≡ length clauses + length more =
    length-append clauses more in
    let small : k.0 < length clauses = k.2 in
    record {
      each = λ i l at. forced_more clauses more (take i literals) l (c.each i l at);
      conflict = (k.0, k.1, omega arith, get_or_append_left clauses more k.1 k.0 k.2 ∙ k.3, k.4);
    }

pub spent_log : (given : List (List ℤ)) (steps : List Step) (budget : ℕ) (trail : List ℤ) →
    length steps ≡ budget → AllDerived given steps → EachNew given steps →
    IsAtRest (given ++ clauses_of steps) trail → IsSpentLog given steps budget
spent_log given steps budget trail count derived each rest =
    record {
      count = count;
      derived = derived;
      none_empty = steps_not_empty given steps each;
      each_new = each;
      no_conflict =
          λ literals c. rest_no_conflict (given ++ clauses_of steps) trail literals rest c;
    }

-- the steps of a spent log are pairwise different
pub steps_different : (given : List (List ℤ)) (steps : List Step) → EachNew given steps →
    AreDifferent steps
steps_different given steps each i j d lt h same =
    let size : length (clauses_of steps) ≡ length steps = length-map steps (λ s. s.clause) in
    let empty : Step = record { clause = d; chain = [] } in
    let one = get_or steps i empty in
    let other = get_or steps j empty in
    let small : j < length steps = omega arith in
    let at_i : get_or (clauses_of steps) i d ≡ one.clause =
    get_or-map (λ s. s.clause) steps i empty d (omega arith) in
    let at_j : get_or (clauses_of steps) j d ≡ other.clause =
    get_or-map (λ s. s.clause) steps j empty d small in
    let before : length (take j steps) ≡ j = length-take-le j steps (omega arith) in
    let earlier : Contains (clauses_of (take j steps)) one.clause =
    subst (Contains (clauses_of (take j steps)))
    (get_or-map (λ s. s.clause) (take j steps) i empty d (omega arith)
    ∙ ap (λ s. s.clause) (get_or-take j steps i empty lt))
    (Contains-get_or (clauses_of (take j steps)) i d
    (let n : length (clauses_of (take j steps)) ≡
    length (take j steps) = length-map (take j steps) (λ s. s.clause) in omega arith)) in
    let equal : one.clause ≡ other.clause = sym at_i ∙ same ∙ at_j in
    no_earlier (given ++ clauses_of (take j steps)) other.clause one.clause
    (each j other (slice_get_at steps j empty small))
    (Contains-append_right given (clauses_of (take j steps)) one.clause earlier) (λ l e.
    ap (stands l) (sym equal) ∙ e)

-- a step that is empty ends a refutation
pub refutation : (given : List (List ℤ)) (steps : List Step) (step : Step) →
    AllDerived given steps → IsDerived (given ++ clauses_of steps) step → step.clause ≡ [] →
    Refutes given (steps ++ step ∷ [])
refutation given steps step derived last empty =
    record {
      derived = derived_push given steps step derived last;
      ends_empty = ends steps step empty;
    }
  where
    ends : (steps : List Step) (step : Step) → step.clause ≡ [] → EndsEmpty (steps ++ step ∷ [])
    ends steps step empty =
        let size : length (steps ++ step ∷ []) ≡ length steps + 1 = length_push steps step in
        let at : slice_get (steps ++ step ∷ []) (length (steps ++ step ∷ []) - 1) ≡ Some step =
        slice_get_at (steps ++ step ∷ []) (length (steps ++ step ∷ []) - 1) step (omega arith)
        ∙ ap Some (get_or_push steps step step (length (steps ++ step ∷ []) - 1)
        (omega arith)) in
        rw at empty

pub only_last_empty : (given : List (List ℤ)) (steps : List Step) (step : Step) →
    EachNew given steps → OnlyLastIsEmpty (steps ++ step ∷ [])
only_last_empty given steps step each =
    let size : length (steps ++ step ∷ []) ≡ length steps + 1 = length_push steps step in
    subst (All (λ s. s.clause ≢ []))
    (sym (take_at steps (step ∷ []) (length (steps ++ step ∷ []) - 1) (omega arith)))
    (steps_not_empty given steps each)

all_suffix : {X : Type 0} (P : X → Type 0) (xs ys : List X) → All P (xs ++ ys) → All P ys
all_suffix P xs ys all k d h =
    let size : length (xs ++ ys) ≡ length xs + length ys = length-append xs ys in
    subst P (get_or-append-add xs ys k d) (all (length xs + k) d (omega arith))

-- a spent log
pub spent_answer : (variables bound : ℕ) (given : List (List ℤ)) (steps log : List Step)
    (budget : ℕ) (trail : List ℤ) → bound ≤ variables → log ≡ steps → length steps ≡ budget
    → AllDerived given steps → EachNew given steps
    → All (IsClauseOf bound) (given ++ clauses_of steps)
    → IsAtRest (given ++ clauses_of steps) trail
    → IsSpentLog given log budget × AreDifferent log × (budget < 3 ^ variables)
spent_answer variables bound given steps log budget trail low is count derived each of rest =
    let P : List Step → Type 0 =
    λ z. IsSpentLog given z budget × AreDifferent z × (budget < 3 ^ variables) in
    let wider : All (IsClauseOf variables) (clauses_of steps) =
    λ k d h. let one = all_suffix (IsClauseOf bound) given (clauses_of steps) of k d h in
    record {
      normal = one.normal;
      within = λ l e.
          let high : unsigned_abs l ≤ bound = one.within l e in omega arith;
    } in
    let few : length steps < 3 ^ variables =
    steps_below variables steps wider (steps_not_empty given steps each)
    (steps_different given steps each) in
    subst P (sym is) (
      spent_log given steps budget trail count derived each rest,
      steps_different
          given steps each,
      omega arith,
    )

-- within the number of variables and in 32 bits
pub clause_of_least : (variables bound : ℕ) (clause : List ℤ) → IsClause clause →
    IsWithin variables clause → bound ≡ min variables 2147483647 → IsClauseOf bound clause
clause_of_least variables bound clause normal within is =
    record {
      normal = normal;
      within = λ l e. let high : unsigned_abs l ≤ variables = within l e in
          let p = place_of l clause e in
          let small : unsigned_abs l < 2 ^ 31 =
          subst (λ z. unsigned_abs z < 2 ^ 31) p.2 (clause_small clause p.0 normal p.1) in
          omega arith;
    }

-- values under a trail at rest that assigns all variables
true_literal : (variables : ℕ) (trail : Assigned) (values : List Bool) (l : ℤ)
    → AreValues variables trail values → trail.variables ≤ variables
    → ((x : ℤ) → stands x trail.literals ≡ true → stands (neg_ℤ x) trail.literals ≡ false)
    → IsOf trail.variables l → stands l trail.literals ≡ true
    → literal_true (value_of values) l ≡ true
true_literal variables trail values (pos zero) v most c of e =
    absurd (let h : 0 < 0 = of.0 in omega arith)
true_literal variables trail values (pos (suc n)) v most c of e =
    let high : suc n ≤ trail.variables = of.1 in
    let at : suc n - 1 ≡ n = omega arith in
    ap (λ z. get_or values z false) at ∙ v.each n (omega (arith, v.size)) (omega arith)
    ∙ ap (λ z. stands (pos z) trail.literals) (add-one n) ∙ e
true_literal variables trail values (negsuc n) v most c of e =
    let high : suc n ≤ trail.variables = of.1 in
    let at : suc n - 1 ≡ n = omega arith in
    not_from_false (value_of values (suc n)) (ap (λ z. get_or values z false) at
    ∙ v.each n (omega (arith, v.size)) (omega arith)
    ∙ ap (λ z. stands (pos z) trail.literals) (add-one n) ∙ c (negsuc n) e)

-- no literal of a variable is open where all are assigned
none_open : (variables : ℕ) (literals : List ℤ) (l : ℤ) → AllAssigned variables literals →
    IsOf variables l → IsOpen literals l → ⊥
none_open variables literals (pos zero) all of o = absurd (let h : 0 < 0 = of.0 in omega arith)
none_open variables literals (pos (suc n)) all of o =
    ⊎_elim (λ e. false≢true (sym o.0 ∙ e)) (λ e. false≢true (sym o.1 ∙ e)) (all (suc n) of.0 of.1)
none_open variables literals (negsuc n) all of o =
    ⊎_elim (λ e. false≢true (sym o.1 ∙ e)) (λ e. false≢true (sym o.0 ∙ e)) (all (suc n) of.0 of.1)

pub found_satisfies :
    (variables : ℕ) (clauses : List (List ℤ)) (trail : Assigned) (values : List Bool)
    → AreValues variables trail values → trail.variables ≤ variables
    → IsAtRest clauses trail.literals → AllAssigned trail.variables trail.literals
    → All (IsClauseOf trail.variables) clauses → Satisfies (value_of values) clauses
found_satisfies variables clauses trail values v most rest all of k d h =
    let clause = get_or clauses k d in
    let within : IsClauseOf trail.variables clause = of k d h in
    ⊎_elim
    (λ one. any_from (literal_true (value_of values)) clause one.0 one.1
    (true_literal variables trail values one.0 v most rest.consistent
    (of_member trail.variables clause one.0 within one.1) one.2))
    (λ two.
    absurd (none_open trail.variables trail.literals two.0 all
    (of_member trail.variables clause two.0 within two.3) two.5))
    (rest.each k d h)

all_prefix : {X : Type 0} (P : X → Type 0) (xs ys : List X) → All P (xs ++ ys) → All P xs
all_prefix P xs ys all k d h =
    let size : length (xs ++ ys) ≡ length xs + length ys = length-append xs ys in
    subst P (get_or_append_left xs ys d k h) (all k d (omega arith))

-- the values that were found
pub found_answer : (variables : ℕ) (clauses kept more : List (List ℤ)) (trail : Assigned)
    (values : List Bool) → kept ≡ clauses ++ more → AreValues variables trail values
    → trail.variables ≤ variables
    → IsAtRest kept trail.literals → AllAssigned trail.variables trail.literals
    → All (IsClauseOf trail.variables) kept → (length values ≡ variables)
    × Satisfies (value_of values) clauses
found_answer variables clauses kept more trail values is v most rest all of =
    let whole : Satisfies (value_of values) kept =
    found_satisfies variables kept trail values v most rest all of in (
      v.size,
      all_prefix (λ clause. clause_true (value_of values) clause ≡ true) clauses more
          (subst (Satisfies (value_of values)) is whole),
    )
