-- What is true wherever clauses are: their resolvents, and all that a log derives from them.
use Rattle.std.proofs.Common.{◌≡◌, ℕ, zero, suc, Bool, true, false, not, ◌&&◌, ◌||◌, ℤ, pos, negsuc}
use Rattle.std.proofs.Common.{neg_ℤ, List, [], ◌∷◌, ◌++◌, refl, sym, ◌∙◌, subst, ⊎_elim, Option}
use Rattle.std.proofs.Common.{Some, None, slice_get, length, IsSomeAnd, ◌-◌}
use Rattle.std.specs.List.{AllByRecursion}
use Rattle.std.specs.Ordering.{int_eq}
use Rattle.std.proofs.lemmas.Bool.{false≢true, or_right, cases_Bool, not-true}
use Rattle.std.proofs.lemmas.List.Elements.{recursion_from_All, All-push}
use Rattle.sv_clause.specs.Literals.{stands, SameLiterals, literal_true, clause_true, Satisfies}
use Rattle.sv_clause.specs.Literals.{HaveNoSolution}
use Rattle.sv_clause.specs.Resolution.{IsResolvent}
use Rattle.sv_clause.specs.Logs.{Step, numbered, ResolvesTo, ChainGives, AllDerived, Refutes}
use Rattle.sv_clause.proofs.Standing.{same_from_int_eq, found_by, any_from}

-- no values make a literal and its negation true
pub not_both_true : (values : ℕ → Bool) (l : ℤ) → literal_true values l ≡ true →
    literal_true values (neg_ℤ l) ≡ true → ⊥
not_both_true values (pos zero) e f = false≢true e
not_both_true values (pos (suc n)) e f = false≢true (sym (not-true (values (suc n)) f) ∙ e)
not_both_true values (negsuc n) e f = false≢true (sym (not-true (values (suc n)) e) ∙ f)

from_first : (a b p q : Bool) → a ≡ true → p ≡ false → ((a && not p) || (b && not q)) ≡ true
from_first a b p q e f = rw (e, f) refl

from_second : (a b p q : Bool) → b ≡ true → q ≡ false → ((a && not p) || (b && not q)) ≡ true
from_second a b p q e f = rw (e, f) (or_right (a && not p) true refl)

pub resolvent_true : (values : ℕ → Bool) (a b : List ℤ) (p : ℤ) (c : List ℤ) → IsResolvent a b p c →
    clause_true values a ≡ true → clause_true values b ≡ true → clause_true values c ≡ true
resolvent_true values a b p c r ta tb =
    let test = literal_true values in
    let x = found_by test a ta in
    let y = found_by test b tb in
    ⊎_elim
    (λ pivot. ⊎_elim
    (λ negated.
    absurd (not_both_true values p
    (subst (λ z. literal_true values z ≡ true) (same_from_int_eq x.0 p pivot) x.2)
    (subst (λ z. literal_true values z ≡ true) (same_from_int_eq y.0 (neg_ℤ p) negated) y.2)))
    (λ other. any_from test c y.0 (r.literals y.0
    ∙ from_second (stands y.0 a) (stands y.0 b) (int_eq y.0 p) (int_eq y.0 (neg_ℤ p)) y.1
    other) y.2)
    (cases_Bool (int_eq y.0 (neg_ℤ p))))
    (λ other. any_from test c x.0 (r.literals x.0
    ∙ from_first (stands x.0 a) (stands x.0 b) (int_eq x.0 p) (int_eq x.0 (neg_ℤ p)) x.1
    other) x.2)
    (cases_Bool (int_eq x.0 p))

-- what holds of each element holds of the one at a place
pub holds_at : {X : Type 0} (P : X → Type 0) (xs : List X) (i : ℕ) (x : X) → AllByRecursion P xs →
    slice_get xs i ≡ Some x → P x
holds_at P [] i x h e = absurd (cc)
holds_at P (y ∷ ys) zero x h e = let same : y ≡ x = cc in subst P same h.0
holds_at P (y ∷ ys) (suc i) x h e = holds_at P ys i x h.1 e

pub numbered_true : (values : ℕ → Bool) (clauses : List (List ℤ)) (n : ℕ) (clause : List ℤ) →
    Satisfies values clauses → numbered clauses n ≡ Some clause → clause_true values clause ≡ true
numbered_true values clauses zero clause h e = absurd (cc)
numbered_true values clauses (suc n) clause h e =
    holds_at (λ c. clause_true values c ≡ true) clauses n clause
    (recursion_from_All (λ c. clause_true values c ≡ true) clauses h) e

pub same_true : (values : ℕ → Bool) (a b : List ℤ) → SameLiterals a b →
    clause_true values a ≡ true → clause_true values b ≡ true
same_true values a b same t =
    let x = found_by (literal_true values) a t in
    any_from (literal_true values) b x.0 (sym (same x.0) ∙ x.1) x.2

pub chain_true : (values : ℕ → Bool) (clauses : List (List ℤ)) (from : List ℤ) (chain : List ℕ)
    (clause : List ℤ) → Satisfies values clauses → clause_true values from ≡ true →
    ResolvesTo clauses from chain clause → clause_true values clause ≡ true
chain_true values clauses from [] clause h t r = same_true values from clause r t
chain_true values clauses from (n ∷ ns) clause h t r =
    chain_true values clauses r.2 ns clause h
    (resolvent_true values from r.0 r.1 r.2 r.4 t (numbered_true values clauses n r.0 h r.3))
    r.5

pub derived_true : (values : ℕ →
    Bool) (clauses : List (List ℤ)) (chain : List ℕ) (clause : List ℤ) → Satisfies values clauses →
    ChainGives clauses chain clause → clause_true values clause ≡ true
derived_true values clauses [] clause h d = absurd d
derived_true values clauses (n ∷ ns) clause h d =
    chain_true values clauses d.0 ns clause h (numbered_true values clauses n d.0 h d.1) d.2

pub steps_true : (values : ℕ → Bool) (clauses : List (List ℤ)) (steps : List Step) →
    Satisfies values clauses → AllDerived clauses steps →
    AllByRecursion (λ s. clause_true values s.clause ≡ true) steps
steps_true values clauses [] h d = tt
steps_true values clauses (s ∷ steps) h d =
    let t : clause_true values s.clause ≡ true =
    derived_true values clauses s.chain s.clause h d.0 in (
      t,
      steps_true values (clauses ++ s.clause ∷ []) steps
          (All-push (λ c. clause_true values c ≡ true) clauses s.clause h t) d.1,
    )

at_some : {X : Type 0} (o : Option X) (P : X → Type 0) → IsSomeAnd o P →
    (x : X) × (o ≡ Some x) × P x
at_some None P h = absurd h
at_some (Some x) P h = (x, refl, h)

pub refuted : (clauses : List (List ℤ)) (steps : List Step) → Refutes clauses steps →
    HaveNoSolution clauses
refuted clauses steps r values h =
    let last = at_some (slice_get steps (length steps - 1)) (λ s. s.clause ≡ []) r.ends_empty in
    let t : clause_true values (last.0).clause ≡ true =
    holds_at (λ s. clause_true values s.clause ≡ true) steps (length steps - 1) last.0
    (steps_true values clauses steps h r.derived) last.1 in
    false≢true (subst (λ c. clause_true values c ≡ true) last.2 t)
