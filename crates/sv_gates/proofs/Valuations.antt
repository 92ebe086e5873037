-- What values say of clauses in normal form.
use Rattle.std.proofs.Common.{◌≡◌, ℕ, zero, suc, ◌<◌, ◌≤◌, Bool, true, false, not, ◌||◌, ◌&&◌, ℤ, pos}
use Rattle.std.proofs.Common.{negsuc, neg_ℤ, unsigned_abs, List, [], ◌∷◌, ◌++◌, All}
use Rattle.std.proofs.Common.{refl, sym, ap, ◌∙◌, ⊎_elim, arith}
use Rattle.std.specs.List.{AllByRecursion}
use Rattle.std.specs.Ordering.{int_eq}
use Rattle.std.proofs.lemmas.Bool.{or_left, or_right, cond_both, cases_Bool, and_parts, and_from}
use Rattle.std.proofs.lemmas.List.{append-nil, append_assoc}
use Rattle.std.proofs.lemmas.List.Elements.{recursion_from_All, All-from_recursion}
use Rattle.std.proofs.lemmas.List.Folds.{list_all-append}
use Rattle.sv_clause.specs.Literals.{stands, literal_true, clause_true, Satisfies}
use Rattle.sv_clause.proofs.Standing.{found_by, any_from, int_eq-same}
use Rattle.sv_gates.specs.Formulas.{meets, IsLiteral, IsWithin}
use Rattle.sv_gates.specs.NormalForms.{ascending, clashes, with_clause, with_clauses}
use Rattle.sv_gates.specs.Extending.{AgreeUpTo}
use Rattle.sv_gates.proofs.NormalLaws.{any-ascending, AreLiterals, AllAreLiterals, literal_at}

not_not : (b : Bool) → b ≡ not (not b)
not_not true = refl
not_not false = refl

-- a literal is true where its negation is false
pub negation_true : (values : ℕ → Bool) (l : ℤ) → 0 < unsigned_abs l →
    literal_true values (neg_ℤ l) ≡ not (literal_true values l)
negation_true values (pos zero) some = absurd (omega arith)
negation_true values (pos (suc n)) some = refl
negation_true values (negsuc n) some = not_not (values (suc n))

-- a clause with a variable in both signs is true
clashing_true : (n : ℕ) (values : ℕ → Bool) (raw : List ℤ) → AreLiterals n raw →
    clashes raw ≡ true → clause_true values raw ≡ true
clashing_true n values raw all e =
    let both = found_by (λ l. stands (neg_ℤ l) raw) raw e in
    ⊎_elim (λ yes_true. any_from (literal_true values) raw both.0 both.1 yes_true)
    (λ no_true. any_from (literal_true values) raw (neg_ℤ both.0) both.2
    (negation_true values both.0 (literal_at n raw both.0 all both.1).0 ∙ ap not no_true))
    (cases_Bool (literal_true values both.0))

and_one : (b : Bool) → (b && true) ≡ b
and_one true = refl
and_one false = refl

and_true : (b c : Bool) → c ≡ true → b ≡ (b && c)
and_true true c e = sym e
and_true false c e = refl

-- values meet clauses and one more where they meet the clauses and make that one true
pub meets-with_clause : (n : ℕ) (values : ℕ → Bool) (raw : List ℤ) (clauses : List (List ℤ)) →
    AreLiterals n raw →
    meets values (with_clause raw clauses) ≡ (meets values clauses && clause_true values raw)
unfolding with_clause
meets-with_clause n values raw clauses all =
    cond_both (clashes raw) clauses (clauses ++ ascending raw ∷ [])
    (λ z. meets values z ≡ (meets values clauses && clause_true values raw))
    (λ e. and_true (meets values clauses) (clause_true values raw)
    (clashing_true n values raw all e))
    (λ _. list_all-append (clause_true values) clauses (ascending raw ∷ [])
    ∙ ap (λ z. meets values clauses && z) (and_one (clause_true values (ascending raw))
    ∙ any-ascending (literal_true values) raw))

and_assoc : (a b c : Bool) → ((a && b) && c) ≡ (a && (b && c))
and_assoc true b c = refl
and_assoc false b c = refl

-- values meet clauses and more where they meet the clauses and the others as written
pub meets-with_clauses : (n : ℕ) (values : ℕ → Bool) (raws clauses : List (List ℤ)) →
    AllAreLiterals n raws →
    meets values (with_clauses raws clauses) ≡ (meets values clauses && meets values raws)
meets-with_clauses n values [] clauses all = and_true (meets values clauses) true refl
meets-with_clauses n values (raw ∷ raws) clauses all =
    meets-with_clauses n values raws (with_clause raw clauses) all.1
    ∙ ap (λ z. z && meets values raws) (meets-with_clause n values raw clauses all.0)
    ∙ and_assoc (meets values clauses) (clause_true values raw) (meets values raws)

-- clauses that were there stay in front
pub with_clause_front : (raw : List ℤ) (clauses : List (List ℤ)) →
    (more : List (List ℤ)) × (with_clause raw clauses ≡ clauses ++ more)
unfolding with_clause
with_clause_front raw clauses =
    cond_both (clashes raw) clauses (clauses ++ ascending raw ∷ [])
    (λ z. (more : List (List ℤ)) × (z ≡ clauses ++ more)) (λ _. ([], sym (append-nil clauses)))
    (λ _. (ascending raw ∷ [], refl))

pub with_clauses_front : (raws clauses : List (List ℤ)) →
    (more : List (List ℤ)) × (with_clauses raws clauses ≡ clauses ++ more)
with_clauses_front [] clauses = ([], sym (append-nil clauses))
with_clauses_front (raw ∷ raws) clauses =
    let one = with_clause_front raw clauses in
    let rest = with_clauses_front raws (with_clause raw clauses) in
    (one.0 ++ rest.0, rest.1 ∙ ap (λ z. z ++ rest.0) one.1 ∙ append_assoc clauses one.0 rest.0)

-- clauses within their variables hang on the values of these alone
literal_local : (n : ℕ) (one other : ℕ → Bool) (l : ℤ) → AgreeUpTo n one other →
    unsigned_abs l ≤ n → literal_true one l ≡ literal_true other l
literal_local n one other (pos zero) agree small = refl
literal_local n one other (pos (suc m)) agree small = agree (suc m) small
literal_local n one other (negsuc m) agree small = ap not (agree (suc m) small)

clause_local : (n : ℕ) (one other : ℕ → Bool) (clause : List ℤ) → AgreeUpTo n one other →
    IsWithin n clause → clause_true one clause ≡ clause_true other clause
clause_local n one other [] agree within = refl
clause_local n one other (l ∷ ls) agree within =
    ap (λ z. z || clause_true one ls) (literal_local n one other l agree (within l (or_left
    (int_eq l l) (stands l ls) (int_eq-same l l refl))))
    ∙ ap (λ z. literal_true other l || z) (clause_local n one other ls agree (λ z at.
    within z (or_right (int_eq z l) (stands z ls) at)))

by_recursion_local : (n : ℕ) (one other : ℕ → Bool) (clauses : List (List ℤ)) →
    AgreeUpTo n one other → AllByRecursion (IsWithin n) clauses →
    meets one clauses ≡ meets other clauses
by_recursion_local n one other [] agree within = refl
by_recursion_local n one other (clause ∷ clauses) agree within =
    ap (λ z. z && meets one clauses) (clause_local n one other clause agree within.0)
    ∙ ap (λ z. clause_true other clause && z) (by_recursion_local n one other clauses agree
    within.1)

pub literal_agrees : (n : ℕ) (one other : ℕ → Bool) (l : ℤ) → AgreeUpTo n one other →
    IsLiteral n l → literal_true one l ≡ literal_true other l
literal_agrees n one other l agree is = literal_local n one other l agree is.1

pub meets_agrees : (n : ℕ) (one other : ℕ → Bool) (clauses : List (List ℤ)) →
    AgreeUpTo n one other → All (IsWithin n) clauses → meets one clauses ≡ meets other clauses
meets_agrees n one other clauses agree within =
    by_recursion_local n one other clauses agree (recursion_from_All (IsWithin n) clauses within)

each_true : (values : ℕ → Bool) (clauses : List (List ℤ)) → meets values clauses ≡ true →
    AllByRecursion (λ c. clause_true values c ≡ true) clauses
each_true values [] e = tt
each_true values (c ∷ cs) e =
    let parts = and_parts (clause_true values c) (meets values cs) e in
    (parts.0, each_true values cs parts.1)

met_from_each : (values : ℕ → Bool) (clauses : List (List ℤ)) →
    AllByRecursion (λ c. clause_true values c ≡ true) clauses → meets values clauses ≡ true
met_from_each values [] all = refl
met_from_each values (c ∷ cs) all =
    and_from (clause_true values c) (meets values cs) all.0 (met_from_each values cs all.1)

-- to meet clauses is to make each of them true
pub Satisfies-from_meets : (values : ℕ → Bool) (clauses : List (List ℤ)) →
    meets values clauses ≡ true → Satisfies values clauses
Satisfies-from_meets values clauses e =
    All-from_recursion (λ c. clause_true values c ≡ true) clauses (each_true values clauses e)

pub meets_from_Satisfies : (values : ℕ → Bool) (clauses : List (List ℤ)) →
    Satisfies values clauses → meets values clauses ≡ true
meets_from_Satisfies values clauses all =
    met_from_each values clauses
    (recursion_from_All (λ c. clause_true values c ≡ true) clauses all)
