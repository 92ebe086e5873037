-- Private: how the code goes. What the search for values keeps: clauses, what is false under a list
-- of literals, and what a clause makes true.
use Rattle.std.specs.Prelude.{◌≡◌, ◌≢◌, ℕ, ◌<◌, ◌≤◌, ◌&&◌, ◌||◌, IsTrue, ℤ, pos, neg_ℤ}
use Rattle.std.specs.Prelude.{unsigned_abs, List, length, take, Some, slice_index_or, ◌⊎◌}
use Rattle.std.specs.Bool.{IsFalse}
use Rattle.sv_clause.specs.Literals.{stands, IsClause}
use Rattle.sv_clause.specs.Logs.{numbered, ChainGives}
use Rattle.sv_clause.specs.Units.{HasOneIn, HasTwoOpen}
use Rattle.sv_solve.specs.Lists.{Assigned}

-- a clause of variables up to this one
pub record IsClauseOf (variables : ℕ) (clause : List ℤ) : Type 0 where
  pub normal : IsClause clause
  pub within : (literal : ℤ) → IsTrue (stands literal clause) → unsigned_abs literal ≤ variables

-- every literal of the clause is false
abbrev pub AllFalse : List ℤ → List ℤ → Type 0
AllFalse literals clause =
    (literal : ℤ) → IsTrue (stands literal clause) → IsTrue (stands (neg_ℤ literal) literals)

-- every literal of the clause but one is false
abbrev pub OthersFalse : List ℤ → List ℤ → ℤ → Type 0
OthersFalse literals clause left =
    (literal : ℤ) → IsTrue (stands literal clause) → literal ≢ left →
    IsTrue (stands (neg_ℤ literal) literals)

-- no literal stands in the list beside its own negation
abbrev pub IsConsistent : List ℤ → Type 0
IsConsistent literals =
    (literal : ℤ) → IsTrue (stands literal literals) → IsFalse (stands (neg_ℤ literal) literals)

-- the clause has a true literal or two open ones
abbrev pub IsSettled : List ℤ → List ℤ → Type 0
IsSettled literals clause = HasOneIn literals clause ⊎ HasTwoOpen literals clause

-- the numbered clause makes the literal true: its other literals are false
pub record Implies (clauses : List (List ℤ)) (number : ℕ) (literals : List ℤ) (literal : ℤ) :
    Type 0 where
  pub clause : List ℤ
  pub is : numbered clauses number ≡ Some clause
  pub member : IsTrue (stands literal clause)
  pub others : OthersFalse literals clause literal

-- the literal at a place is made true by its reason and those before it
abbrev pub IsImpliedAt : List (List ℤ) → Assigned → ℕ → Type 0
IsImpliedAt clauses trail place =
    Implies clauses (slice_index_or trail.reasons place 0) (take place trail.literals)
    (slice_index_or trail.literals place (pos 0))

-- from a place on each literal is made true by its reason and those before it
abbrev pub ImpliedFrom : List (List ℤ) → Assigned → ℕ → Type 0
ImpliedFrom clauses trail from =
    (i : ℕ) → from ≤ i → i < length trail.literals → IsImpliedAt clauses trail i

-- the chain derives the clause of the kept literals and of the seen ones that are false below the
-- bound
pub record Derives (clauses : List (List ℤ)) (chain : List ℕ) (kept seen trail : List ℤ)
    (bound : ℕ) : Type 0 where
  pub clause : List ℤ
  pub chain_gives : ChainGives clauses chain clause
  pub literals : (literal : ℤ) →
      stands literal clause ≡
      (stands literal kept || (stands literal seen && stands (neg_ℤ literal) (take bound trail)))

-- some seen literal is false below the bound, and not below the mark
abbrev pub HasLater : List ℤ → List ℤ → ℕ → ℕ → Type 0
HasLater seen trail mark bound =
    (literal : ℤ) × IsTrue (stands literal seen)
    × IsTrue (stands (neg_ℤ literal) (take bound trail))
    × IsFalse (stands (neg_ℤ literal) (take mark trail))

-- no literal of the trail in between is seen negated
abbrev pub NoneSeen : List ℤ → List ℤ → ℕ → ℕ → Type 0
NoneSeen seen trail from to =
    (i : ℕ) → from ≤ i → i < to → IsFalse (stands (neg_ℤ (slice_index_or trail i (pos 0))) seen)

-- some literal of the trail in between is seen negated
abbrev pub SomeSeen : List ℤ → List ℤ → ℕ → ℕ → Type 0
SomeSeen seen trail from to =
    (i : ℕ) × (from ≤ i) × (i < to) × IsTrue (stands (neg_ℤ (slice_index_or trail i (pos 0))) seen)
