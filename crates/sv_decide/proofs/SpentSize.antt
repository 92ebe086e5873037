-- How long a spent log may be. Each step is shown new by literals at rest for the clauses before
-- it; these differ from step to step, and never make every variable true.
use Rattle.std.proofs.Common.{◌≡◌, ◌≢◌, ℕ, zero, suc, ◌+◌, ◌<◌, ◌≤◌, ◌^◌, Bool, true, false}
use Rattle.std.proofs.Common.{cond, not, ◌&&◌, ℤ, pos, negsuc, neg_ℤ, unsigned_abs, List, [], ◌∷◌}
use Rattle.std.proofs.Common.{◌++◌, refl, sym, ap, ◌∙◌, subst, ◌⊎◌, ⊎_elim, length, get_or, take}
use Rattle.std.proofs.Common.{Some, slice_get, eqb, arith}
use Rattle.std.specs.Prelude.{All, Contains}
use Rattle.std.specs.Ordering.{int_eq}
use Rattle.std.proofs.lemmas.Bool.{false≢true, or_cases, and_parts, eqb-true}
use Rattle.std.proofs.lemmas.Bool.{ne_eqb, false_from_ne_true}
use Rattle.std.proofs.lemmas.List.{append-nil, append_assoc}
use Rattle.std.proofs.lemmas.List.Elements.{All-push, All-contains, Contains-append_right}
use Rattle.std.proofs.lemmas.Map.Keys.{IsDistinct-from_apart}
use Rattle.std.proofs.lemmas.Map.Steps.{length-le_from_distinct_below}
use Rattle.std.proofs.lemmas.Option.{slice_get_within, get_or_from_slice_get, slice_get-get_or}
use Rattle.sv_clause.specs.Literals.{stands, literal_true, clause_true}
use Rattle.sv_clause.specs.Resolution.{IsResolvent}
use Rattle.sv_clause.specs.Logs.{Step, clauses_of, numbered, ResolvesTo, ChainGives, IsDerived}
use Rattle.sv_clause.specs.Logs.{AllDerived}
use Rattle.sv_clause.specs.Units.{IsOpen, HasOneIn, HasTwoOpen, ShowsNew, IsSpentLog}
use Rattle.sv_clause.proofs.Merging.{unsigned_abs-neg}
use Rattle.sv_clause.proofs.Standing.{cases_int, found_by, any_from}
use Rattle.sv_clause.proofs.Truth.{derived_true, not_both_true}
use Rattle.sv_gates.specs.Formulas.{IsWithin}
use Rattle.sv_solve.proofs.Counting.{digit, number_of, are_ternary, HaveOneSign, same_signs}
use Rattle.sv_solve.proofs.Counting.{any_place}
use Rattle.sv_solve.proofs.Ternary.{number-below, zero_digits}

-- ---- what is derived speaks of the same variables

resolvent_within : (n : ℕ) (a b : List ℤ) (p : ℤ) (r : List ℤ) → IsWithin n a → IsWithin n b
    → IsResolvent a b p r → IsWithin n r
resolvent_within n a b p r ha hb res l e =
    ⊎_elim (λ x. ha l (and_parts (stands l a) (not (int_eq l p)) x).0)
    (λ x. hb l (and_parts (stands l b) (not (int_eq l (neg_ℤ p))) x).0)
    (or_cases (stands l a && not (int_eq l p)) (stands l b && not (int_eq l (neg_ℤ p)))
    (sym (res.literals l) ∙ e))

numbered_within : (n : ℕ) (clauses : List (List ℤ)) (k : ℕ) (clause : List ℤ)
    → All (IsWithin n) clauses → numbered clauses k ≡ Some clause → IsWithin n clause
numbered_within n clauses zero clause of e = absurd cc
numbered_within n clauses (suc k) clause of e =
    subst (IsWithin n) (get_or_from_slice_get clauses k clause clause e)
    (of k clause (slice_get_within clauses k clause e))

chain_within : (n : ℕ) (clauses : List (List ℤ)) (from : List ℤ) (chain : List ℕ)
    (clause : List ℤ) → All (IsWithin n) clauses → IsWithin n from
    → ResolvesTo clauses from chain clause → IsWithin n clause
chain_within n clauses from [] clause of h same = λ l e. h l (same l ∙ e)
chain_within n clauses from (m ∷ ms) clause of h r =
    chain_within n clauses r.2 ms clause of
    (resolvent_within n from r.0 r.1 r.2 h (numbered_within n clauses m r.0 of r.3) r.4) r.5

derived_within : (n : ℕ) (clauses : List (List ℤ)) (chain : List ℕ) (clause : List ℤ)
    → All (IsWithin n) clauses → ChainGives clauses chain clause → IsWithin n clause
derived_within n clauses [] clause of d = absurd d
derived_within n clauses (m ∷ ms) clause of d =
    chain_within n clauses d.0 ms clause of (numbered_within n clauses m d.0 of d.1) d.2

-- the clauses before a step are of the variables, and the step is derived from them
before_within : (n : ℕ) (clauses : List (List ℤ)) (steps : List Step) (j : ℕ)
    → All (IsWithin n) clauses → AllDerived clauses steps
    → All (IsWithin n) (clauses ++ clauses_of (take j steps))
before_within n clauses steps zero of d = subst (All (IsWithin n)) (sym (append-nil clauses)) of
before_within n clauses [] (suc j) of d = subst (All (IsWithin n)) (sym (append-nil clauses)) of
before_within n clauses (s ∷ steps) (suc j) of d =
    subst (All (IsWithin n)) (append_assoc clauses (s.clause ∷ []) (clauses_of (take j steps)))
    (before_within n (clauses ++ s.clause ∷ []) steps j
    (All-push (IsWithin n) clauses s.clause of (derived_within n clauses s.chain s.clause of d.0))
    d.1)

derived_at : (clauses : List (List ℤ)) (steps : List Step) (j : ℕ) (step : Step)
    → AllDerived clauses steps → slice_get steps j ≡ Some step
    → IsDerived (clauses ++ clauses_of (take j steps)) step
derived_at clauses [] j step d e = absurd cc
derived_at clauses (s ∷ steps) zero step d e =
    let same : s ≡ step = cc in
    subst (λ (z : List (List ℤ)). IsDerived z step) (sym (append-nil clauses))
    (subst (IsDerived clauses) same d.0)
derived_at clauses (s ∷ steps) (suc j) step d e =
    subst (λ (z : List (List ℤ)). IsDerived z step)
    (append_assoc clauses (s.clause ∷ []) (clauses_of (take j steps)))
    (derived_at (clauses ++ s.clause ∷ []) steps j step d.1 e)

-- a step's clause is one of those before a later step
stands_before : (steps : List Step) (i j : ℕ) (step : Step) → i < j
    → slice_get steps i ≡ Some step → Contains (clauses_of (take j steps)) step.clause
stands_before [] i j step lt e = absurd cc
stands_before (s ∷ steps) i zero step lt e = absurd (omega arith)
stands_before (s ∷ steps) zero (suc j) step lt e =
    let same : s ≡ step = cc in (0, omega arith, ap (λ (z : Step). z.clause) same)
stands_before (s ∷ steps) (suc i) (suc j) step lt e =
    let r = stands_before steps i j step (omega arith) e in
    let small : r.0 < length (clauses_of (take j steps)) = r.1 in
    (suc r.0, omega arith, r.2)

-- ---- literals as numbers

-- no literal stands beside its own negation
abbrev Consistent : List ℤ → Type 0
Consistent literals = (l : ℤ) → stands l literals ≡ true → stands (neg_ℤ l) literals ≡ false

one_signed : (c : List ℤ) → Consistent c → HaveOneSign c
one_signed c h l e f = false≢true (sym (h l e) ∙ f)

zero_absent : (c : List ℤ) → Consistent c → stands (pos 0) c ≡ false
zero_absent c h = false_from_ne_true (stands (pos 0) c) (λ e. false≢true (sym (h (pos 0) e) ∙ e))

same_stands : (n : ℕ) (c d : List ℤ) → Consistent c → Consistent d
    → number_of n c ≡ number_of n d → (l : ℤ) → unsigned_abs l ≤ n → stands l c ≡ stands l d
same_stands n c d hc hd e (pos zero) h = zero_absent c hc ∙ sym (zero_absent d hd)
same_stands n c d hc hd e (pos (suc k)) h =
    (same_signs n c d (one_signed c hc) (one_signed d hd) e (suc k) (omega arith) h).0
same_stands n c d hc hd e (negsuc k) h =
    (same_signs n c d (one_signed c hc) (one_signed d hd) e (suc k) (omega arith) h).1

zero_cond : (p q : Bool) → ◌≡◌ {A = ℕ} (cond p 0 (cond q 1 2)) 0 → p ≡ true
zero_cond true q e = refl
zero_cond false true e = absurd (omega arith)
zero_cond false false e = absurd (omega arith)

zero_digit : (v : ℕ) (c : List ℤ) → digit c v ≡ 0 → stands (pos v) c ≡ true
unfolding digit
zero_digit v c e = zero_cond (stands (pos v) c) (stands (neg_ℤ (pos v)) c) e

-- of number 0 every variable is true
all_true : (n : ℕ) (c : List ℤ) → number_of n c ≡ 0 → (v : ℕ) → 0 < v → v ≤ n
    → stands (pos v) c ≡ true
all_true n c e v low high = zero_digit v c (zero_digits (digit c) n (are_ternary c) e v low high)

-- ---- no two steps are shown new by literals of one number

module _ (n : ℕ) (clause first second : List ℤ) (before : List (List ℤ)) (left : ℤ)
    (within : IsWithin n clause) (shows : ShowsNew before clause first left)
    (consistent : Consistent second) (same : number_of n first ≡ number_of n second) where
  alike : (l : ℤ) → unsigned_abs l ≤ n → stands l first ≡ stands l second
  alike = same_stands n first second shows.rest.consistent consistent same

  is_left : (l : ℤ) → stands l clause ≡ true → IsOpen second l → l ≡ left
  is_left l at is_open =
      ⊎_elim (λ e. e) (λ ne.
      absurd (false≢true (sym (alike (neg_ℤ l)
      (subst (λ z. z ≤ n) (sym (unsigned_abs-neg l)) (within l at)) ∙ is_open.1)
      ∙ shows.others l at ne))) (cases_int l left)

  shown_again : HasOneIn second clause ⊎ HasTwoOpen second clause → ⊥
  shown_again settled =
      ⊎_elim (λ one.
      let here : stands one.0 first ≡ true = alike one.0 (within one.0 one.1) ∙ one.2 in
      ⊎_elim (λ e. false≢true (sym shows.open_left.0 ∙ subst (λ z. stands z first ≡ true) e here))
      (λ ne. false≢true (sym (shows.rest.consistent one.0 here) ∙ shows.others one.0 one.1 ne))
      (cases_int one.0 left))
      (λ two. two.2 (is_left two.0 two.3 two.5 ∙ sym (is_left two.1 two.4 two.6)))
      settled

-- ---- none is shown new by literals that make every variable true

abbrev every : ℕ → Bool
every v = true

module _ (n : ℕ) (literals : List ℤ) (consistent : Consistent literals)
    (whole : (v : ℕ) → 0 < v → v ≤ n → stands (pos v) literals ≡ true) where
  true_here : (l : ℤ) → unsigned_abs l ≤ n → stands l literals ≡ true
      → literal_true every l ≡ true
  true_here (pos zero) h e = absurd (false≢true (sym (zero_absent literals consistent) ∙ e))
  true_here (pos (suc k)) h e = refl
  true_here (negsuc k) h e =
      absurd (false≢true (sym (consistent (pos (suc k)) (whole (suc k) (omega arith) h)) ∙ e))

  open_zero : (l : ℤ) → unsigned_abs l ≤ n → IsOpen literals l → l ≡ pos 0
  open_zero (pos zero) h o = refl
  open_zero (pos (suc k)) h o = absurd (false≢true (sym o.0 ∙ whole (suc k) (omega arith) h))
  open_zero (negsuc k) h o = absurd (false≢true (sym o.1 ∙ whole (suc k) (omega arith) h))

  settled_true : (clause : List ℤ) → IsWithin n clause
      → HasOneIn literals clause ⊎ HasTwoOpen literals clause → clause_true every clause ≡ true
  settled_true clause within settled =
      ⊎_elim (λ one. any_from (literal_true every) clause one.0 one.1
      (true_here one.0 (within one.0 one.1) one.2))
      (λ two. absurd (two.2 (open_zero two.0 (within two.0 two.3) two.5
      ∙ sym (open_zero two.1 (within two.1 two.4) two.6))))
      settled

  not_whole : (before : List (List ℤ)) (step : Step) (left : ℤ) → All (IsWithin n) before
      → IsDerived before step → ShowsNew before step.clause literals left → ⊥
  not_whole before step left of derived shows =
      let within : IsWithin n step.clause =
      derived_within n before step.chain step.clause of derived in
      let holds : clause_true every step.clause ≡ true =
      derived_true every before step.chain step.clause
      (λ k d h. settled_true (get_or before k d) (of k d h) (shows.rest.each k d h)) derived in
      let x = found_by (literal_true every) step.clause holds in
      ⊎_elim (λ e.
      let none : left ≡ pos 0 = open_zero left (within left shows.member) shows.open_left in
      false≢true (subst (λ z. literal_true every z ≡ true) (e ∙ none) x.2))
      (λ ne. not_both_true every x.0 x.2 (true_here (neg_ℤ x.0)
      (subst (λ z. z ≤ n) (sym (unsigned_abs-neg x.0)) (within x.0 x.1))
      (shows.others x.0 x.1 ne)))
      (cases_int x.0 left)

-- ---- lists of numbers

put_first : (P : ℕ → ℕ → Type 0) (q : ℕ) (qs : List ℕ) (m : ℕ) → P 0 q
    → ((i d : ℕ) → i < m → P (suc i) (get_or qs i d))
    → (i d : ℕ) → i < suc m → P i (get_or (q ∷ qs) i d)
put_first P q qs m here later zero d h = here
put_first P q qs m here later (suc i) d h = later i d (omega arith)

-- a number for each place, as a list
listed : (P : ℕ → ℕ → Type 0) (m : ℕ) → ((i : ℕ) → i < m → (q : ℕ) × P i q)
    → (qs : List ℕ) × (length qs ≡ m) × ((i d : ℕ) → i < m → P i (get_or qs i d))
listed P zero f = ([], refl, λ i d h. absurd (omega arith))
listed P (suc m) f =
    let first = f 0 (omega arith) in
    let rest = listed (λ i q. P (suc i) q) m (λ i h. f (suc i) (omega arith)) in
    (first.0 ∷ rest.0, ap suc rest.1, put_first P first.0 rest.0 m first.1 rest.2)

apart_more : (qs : List ℕ) → ((i d : ℕ) → i < length qs → get_or qs i d ≢ 0)
    → ((i j d : ℕ) → i < j → j < length qs → get_or qs i d ≢ get_or qs j d)
    → (i j d : ℕ) → i < j → j < length (0 ∷ qs) → get_or (0 ∷ qs) i d ≢ get_or (0 ∷ qs) j d
apart_more qs some apart zero zero d lt h e = absurd (omega arith)
apart_more qs some apart zero (suc j) d lt h e = some j d (omega arith) (sym e)
apart_more qs some apart (suc i) zero d lt h e = absurd (omega arith)
apart_more qs some apart (suc i) (suc j) d lt h e = apart i j d (omega arith) (omega arith) e

below_more : (bound : ℕ) (qs : List ℕ) → 0 < bound
    → ((i d : ℕ) → i < length qs → get_or qs i d < bound)
    → (i : ℕ) → i < length (0 ∷ qs) → get_or (0 ∷ qs) i 0 < bound
below_more bound qs some below zero h = some
below_more bound qs some below (suc i) h = below i 0 (omega arith)

-- different numbers from 1 on are fewer than their bound
fewer : (bound : ℕ) (qs : List ℕ) → 0 < bound
    → ((i d : ℕ) → i < length qs → get_or qs i d < bound)
    → ((i d : ℕ) → i < length qs → get_or qs i d ≢ 0)
    → ((i j d : ℕ) → i < j → j < length qs → get_or qs i d ≢ get_or qs j d)
    → length qs < bound
fewer bound qs some below from_one apart =
    let most : length (0 ∷ qs) ≤ bound =
    length-le_from_distinct_below (0 ∷ qs) bound
    (IsDistinct-from_apart eqb (0 ∷ qs)
    (λ i j d lt h. ne_eqb (get_or (0 ∷ qs) i d) (get_or (0 ∷ qs) j d)
    (apart_more qs from_one apart i j d lt h)))
    (λ q e.
    let r = any_place (eqb q) (0 ∷ qs) e in
    subst (λ z. z < bound) (sym (eqb-true q (get_or (0 ∷ qs) r.0 0) r.2))
    (below_more bound qs some below r.0 r.1)) in
    omega arith

-- ---- the steps of a spent log

-- the step at a place is shown new by literals of this number
record IsShownBy (n : ℕ) (clauses : List (List ℤ)) (steps : List Step) (i q : ℕ) : Type 0 where
  literals : List ℤ
  left : ℤ
  step : Step
  at : slice_get steps i ≡ Some step
  shows : ShowsNew (clauses ++ clauses_of (take i steps)) step.clause literals left
  counted : q ≡ number_of n literals

module _ (n budget : ℕ) (clauses : List (List ℤ)) (steps : List Step)
    (of : All (IsWithin n) clauses) (spent : IsSpentLog clauses steps budget) where
  shown : (i : ℕ) → i < length steps → (q : ℕ) × IsShownBy n clauses steps i q
  shown i h =
      let none : Step = record { clause = []; chain = [] } in
      let at : slice_get steps i ≡ Some (get_or steps i none) = slice_get-get_or steps i none h in
      let new = spent.each_new i (get_or steps i none) at in (
        number_of n new.0,
        record {
          literals = new.0;
          left = new.1;
          step = get_or steps i none;
          at = at;
          shows = new.2;
          counted = refl;
        },
      )

  shown_apart : (i j p q : ℕ) → i < j → IsShownBy n clauses steps i p
      → IsShownBy n clauses steps j q → p ≢ q
  shown_apart i j p q lt one other e =
      let before = clauses ++ clauses_of (take i steps) in
      let later = clauses ++ clauses_of (take j steps) in
      let within : IsWithin n one.step.clause =
      derived_within n before one.step.chain one.step.clause
      (before_within n clauses steps i of spent.derived)
      (derived_at clauses steps i one.step spent.derived one.at) in
      shown_again n one.step.clause one.literals other.literals before one.left within one.shows
      other.shows.rest.consistent (sym one.counted ∙ e ∙ other.counted)
      (All-contains (λ c. HasOneIn other.literals c ⊎ HasTwoOpen other.literals c) later
      one.step.clause other.shows.rest.each
      (Contains-append_right clauses (clauses_of (take j steps)) one.step.clause
      (stands_before steps i j one.step lt one.at)))

  shown_some : (i q : ℕ) → IsShownBy n clauses steps i q → q ≢ 0
  shown_some i q one e =
      not_whole n one.literals one.shows.rest.consistent
      (all_true n one.literals (sym one.counted ∙ e)) (clauses ++ clauses_of (take i steps))
      one.step one.left (before_within n clauses steps i of spent.derived)
      (derived_at clauses steps i one.step spent.derived one.at) one.shows

  shown_below : (i q : ℕ) → IsShownBy n clauses steps i q → q < 3 ^ n
  shown_below i q one =
      subst (λ z. z < 3 ^ n) (sym one.counted)
      (number-below (digit one.literals) n (are_ternary one.literals))

  pub spent_short : budget < 3 ^ n
  spent_short =
      let made = listed (IsShownBy n clauses steps) (length steps) shown in
      let size : length made.0 ≡ length steps = made.1 in
      let first : number_of n [] < 3 ^ n = number-below (digit []) n (are_ternary []) in
      let short : length made.0 < 3 ^ n =
      fewer (3 ^ n) made.0 (omega arith)
      (λ i d h. shown_below i (get_or made.0 i d) (made.2 i d (omega arith)))
      (λ i d h. shown_some i (get_or made.0 i d) (made.2 i d (omega arith)))
      (λ i j d lt h. shown_apart i j (get_or made.0 i d) (get_or made.0 j d) lt
      (made.2 i d (omega arith)) (made.2 j d (omega arith))) in
      let count : length steps ≡ budget = spent.count in
      omega arith
