-- How many clauses there are over some variables.
use Rattle.std.proofs.Common.{◌≡◌, ◌≢◌, ℕ, zero, suc, ◌<◌, ◌≤◌, ◌^◌, Bool, true, false}
use Rattle.std.proofs.Common.{cond, ℤ, pos, negsuc, neg_ℤ, unsigned_abs, List, [], ◌∷◌, refl, sym}
use Rattle.std.proofs.Common.{◌∙◌, ⊎_elim, length, get_or, map, eqb, arith}
use Rattle.std.specs.Prelude.{All}
use Rattle.std.specs.List.{list_any}
use Rattle.std.proofs.lemmas.Bool.{false≢true, or_cases, cases_lt, eqb-true, ne_eqb}
use Rattle.std.proofs.lemmas.Bool.{false_from_ne_true}
use Rattle.std.proofs.lemmas.List.{get_or-map, length-map}
use Rattle.std.proofs.lemmas.Map.Keys.{IsDistinct-from_apart}
use Rattle.std.proofs.lemmas.Map.Steps.{length-le_from_distinct_below}
use Rattle.sv_clause.specs.Literals.{stands, SameLiterals}
use Rattle.sv_clause.specs.Logs.{Step, clauses_of}
use Rattle.sv_clause.proofs.Merging.{above}
use Rattle.sv_clause.proofs.SameClause.{same_clause}
use Rattle.sv_solve.specs.Search.{IsClauseOf}
use Rattle.sv_solve.specs.Answers.{AreDifferent}
use Rattle.sv_solve.proofs.Clauses.{one_sign}
use Rattle.sv_solve.proofs.Ternary.{AreTernary, number, number-below, same_digits}

-- whether a variable stands among literals, and in which polarity
unfoldable pub digit : List ℤ → ℕ → ℕ
digit clause v = cond (stands (pos v) clause) 0 (cond (stands (neg_ℤ (pos v)) clause) 1 2)

-- literals of some variables, as a number
abbrev pub number_of : ℕ → List ℤ → ℕ
number_of n clause = number (digit clause) n

small_cond : (p q : Bool) → cond p 0 (cond q 1 2) ≤ 2
small_cond true q = omega arith
small_cond false true = omega arith
small_cond false false = omega arith

pub are_ternary : (clause : List ℤ) → AreTernary (digit clause)
unfolding digit
are_ternary clause v = small_cond (stands (pos v) clause) (stands (neg_ℤ (pos v)) clause)

same_conds : (p q r s : Bool) → (p ≡ true → q ≡ true → ⊥) → (r ≡ true → s ≡ true → ⊥) →
    ◌≡◌ {A = ℕ} (cond p 0 (cond q 1 2)) (cond r 0 (cond s 1 2)) → (p ≡ r) × (q ≡ s)
same_conds true true r s n m e = absurd (n refl refl)
same_conds true false true true n m e = absurd (m refl refl)
same_conds true false true false n m e = (refl, refl)
same_conds true false false true n m e = absurd (omega arith)
same_conds true false false false n m e = absurd (omega arith)
same_conds false true true s n m e = absurd (omega arith)
same_conds false true false true n m e = (refl, refl)
same_conds false true false false n m e = absurd (omega arith)
same_conds false false true s n m e = absurd (omega arith)
same_conds false false false true n m e = absurd (omega arith)
same_conds false false false false n m e = (refl, refl)

-- no variable stands among literals in both polarities
abbrev pub HaveOneSign : List ℤ → Type 0
HaveOneSign c = (l : ℤ) → stands l c ≡ true → stands (neg_ℤ l) c ≡ true → ⊥

pub same_signs : (n : ℕ) (c d : List ℤ) → HaveOneSign c → HaveOneSign d →
    number_of n c ≡ number_of n d → (v : ℕ) → 0 < v → v ≤ n →
    (stands (pos v) c ≡ stands (pos v) d) × (stands (neg_ℤ (pos v)) c ≡ stands (neg_ℤ (pos v)) d)
unfolding digit
same_signs n c d hc hd e v low high =
    same_conds (stands (pos v) c) (stands (neg_ℤ (pos v)) c) (stands (pos v) d)
    (stands (neg_ℤ (pos v)) d) (hc (pos v)) (hd (pos v))
    (same_digits (digit c) (digit d) n (are_ternary c) (are_ternary d) e v low high)

clause_signs : (n : ℕ) (c d : List ℤ) → IsClauseOf n c → IsClauseOf n d →
    number_of n c ≡ number_of n d → (k : ℕ) → k < n →
    (stands (pos (suc k)) c ≡ stands (pos (suc k)) d)
    × (stands (neg_ℤ (pos (suc k))) c ≡ stands (neg_ℤ (pos (suc k))) d)
clause_signs n c d hc hd e k high =
    same_signs n c d (λ l. one_sign l c hc.normal) (λ l. one_sign l d hd.normal) e (suc k)
    (omega arith) (omega arith)

-- a literal of another variable does not stand there
stands_not : (n : ℕ) (c : List ℤ) (l : ℤ) → IsClauseOf n c →
    (0 < unsigned_abs l → unsigned_abs l ≤ n → ⊥) → stands l c ≡ false
stands_not n c l h out =
    false_from_ne_true (stands l c) (λ e. out (above 0 l c h.normal e) (h.within l e))

same_literals : (n : ℕ) (c d : List ℤ) → IsClauseOf n c → IsClauseOf n d →
    number_of n c ≡ number_of n d → SameLiterals c d
same_literals n c d hc hd e (pos zero) =
    stands_not n c (pos zero) hc (λ low high. omega arith)
    ∙ sym (stands_not n d (pos zero) hd (λ low high. omega arith))
same_literals n c d hc hd e (pos (suc k)) =
    ⊎_elim (λ high. (clause_signs n c d hc hd e k high).0)
    (λ out. stands_not n c (pos (suc k)) hc (λ low high. omega arith)
    ∙ sym (stands_not n d (pos (suc k)) hd (λ low high. omega arith)))
    (cases_lt k n)
same_literals n c d hc hd e (negsuc k) =
    ⊎_elim (λ high. (clause_signs n c d hc hd e k high).1)
    (λ out. stands_not n c (negsuc k) hc (λ low high. omega arith)
    ∙ sym (stands_not n d (negsuc k) hd (λ low high. omega arith)))
    (cases_lt k n)

-- a clause is known by its number
same_number : (n : ℕ) (c d : List ℤ) → IsClauseOf n c → IsClauseOf n d →
    number_of n c ≡ number_of n d → c ≡ d
same_number n c d hc hd e = same_clause c d hc.normal hd.normal (same_literals n c d hc hd e)

-- an element that meets a test, where some does
pub any_place : (test : ℕ → Bool) (xs : List ℕ) → list_any test xs ≡ true →
    (i : ℕ) × (i < length xs) × (test (get_or xs i 0) ≡ true)
any_place test [] e = absurd (false≢true e)
any_place test (x ∷ xs) e =
    ⊎_elim (λ here. (0, omega arith, here)) (λ there. let r = any_place test xs there in
    let small : r.0 < length xs = r.1 in
    (suc r.0, omega arith, r.2)) (or_cases (test x) (list_any test xs) e)

-- different clauses over n variables are at most 3 ^ n
clauses_below : (n : ℕ) (clauses : List (List ℤ)) → All (IsClauseOf n) clauses →
    ((i j : ℕ) → i < j → j < length clauses → get_or clauses i [] ≢ get_or clauses j []) →
    length clauses ≤ 3 ^ n
clauses_below n clauses of apart =
    let numbers = map (number_of n) clauses in
    let size : length numbers ≡ length clauses = length-map clauses (number_of n) in
    let at : (i d : ℕ) → i < length clauses →
    get_or numbers i d ≡ number_of n (get_or clauses i []) =
    λ i d h. get_or-map (number_of n) clauses i [] d h in
    let most : length numbers ≤ 3 ^ n =
    length-le_from_distinct_below numbers (3 ^ n)
    (IsDistinct-from_apart eqb numbers
    (λ i j d lt h. let small : j < length clauses = omega arith in
    ne_eqb (get_or numbers i d) (get_or numbers j d)
    (λ e. apart i j lt small
    (same_number n (get_or clauses i []) (get_or clauses j []) (of i [] (omega arith))
    (of j [] small) (sym (at i d (omega arith)) ∙ e ∙ at j d small)))))
    (λ q e. let r = any_place (eqb q) numbers e in
    let here : r.0 < length clauses = let low : r.0 < length numbers = r.1 in omega arith in
    let is : q ≡ number_of n (get_or clauses r.0 []) =
    eqb-true q (get_or numbers r.0 0) r.2 ∙ at r.0 0 here in
    let below : number_of n (get_or clauses r.0 []) < 3 ^ n =
    number-below (digit (get_or clauses r.0 [])) n (are_ternary (get_or clauses r.0 [])) in
    omega arith) in
    omega arith

empty_of : (n : ℕ) → IsClauseOf n []
empty_of n = record { normal = tt; within = λ l e. absurd (false≢true e) }

all_more : (n : ℕ) (clauses : List (List ℤ)) → All (IsClauseOf n) clauses →
    All (IsClauseOf n) ([] ∷ clauses)
all_more n clauses of zero d h = empty_of n
all_more n clauses of (suc k) d h = of k d (omega arith)

apart_more : (clauses : List (List ℤ)) → ((i : ℕ) → i < length clauses → get_or clauses i [] ≢ [])
    → ((i j : ℕ) → i < j → j < length clauses → get_or clauses i [] ≢ get_or clauses j [])
    → (i j : ℕ) → i < j → j < length ([] ∷ clauses)
    → get_or ([] ∷ clauses) i [] ≢ get_or ([] ∷ clauses) j []
apart_more clauses some apart zero zero lt h e = absurd (omega arith)
apart_more clauses some apart zero (suc j) lt h e = some j (omega arith) (sym e)
apart_more clauses some apart (suc i) zero lt h e = absurd (omega arith)
apart_more clauses some apart (suc i) (suc j) lt h e = apart i j (omega arith) (omega arith) e

-- different clauses over n variables that are not empty are fewer than 3 ^ n
pub steps_below : (n : ℕ) (steps : List Step) → All (IsClauseOf n) (clauses_of steps) →
    All (λ step. step.clause ≢ []) steps → AreDifferent steps → length steps < 3 ^ n
steps_below n steps of some apart =
    let clauses = clauses_of steps in
    let size : length clauses ≡ length steps = length-map steps (λ s. s.clause) in
    let none : Step = record { clause = []; chain = [] } in
    let most : length ([] ∷ clauses) ≤ 3 ^ n =
    clauses_below n ([] ∷ clauses) (all_more n clauses of)
    (apart_more clauses (λ i h e.
    some i none (omega arith) (sym (get_or-map (λ s. s.clause) steps i none [] (omega arith))
    ∙ e)) (λ i j lt h. apart i j [] lt h)) in
    omega arith
