-- Unit resolution on plain lists: what it reaches, where it rests, and what a spent log adds to it.
use Rattle.std.specs.Prelude.{◌≡◌, ◌≢◌, ℕ, ◌⊎◌, IsTrue, ℤ, neg_ℤ, List, [], ◌++◌, length, take, All}
use Rattle.std.specs.Prelude.{Any, Some, slice_get}
use Rattle.std.specs.Bool.{IsFalse}
use Rattle.sv_clause.specs.Literals.{stands}
use Rattle.sv_clause.specs.Logs.{Step, clauses_of, AllDerived}

-- neither the literal nor its negation stands in the list
abbrev pub IsOpen : List ℤ → ℤ → Type 0
IsOpen literals literal =
    IsFalse (stands literal literals) × IsFalse (stands (neg_ℤ literal) literals)

-- a literal of the clause stands in the list
abbrev pub HasOneIn : List ℤ → List ℤ → Type 0
HasOneIn literals clause =
    (literal : ℤ) × IsTrue (stands literal clause) × IsTrue (stands literal literals)

-- at least two literals of the clause are open in the list
abbrev pub HasTwoOpen : List ℤ → List ℤ → Type 0
HasTwoOpen literals clause =
    (one other : ℤ) × (one ≢ other) × IsTrue (stands one clause) × IsTrue (stands other clause)
    × IsOpen literals one × IsOpen literals other

-- a list of literals is at rest for clauses: no literal stands in it beside its own negation, and
-- each clause has a literal that stands in it or has at least two open ones
pub record IsAtRest (clauses : List (List ℤ)) (literals : List ℤ) : Type 0 where
  pub consistent : (literal : ℤ) → IsTrue (stands literal literals) →
      IsFalse (stands (neg_ℤ literal) literals)
  pub each : All (λ clause. HasOneIn literals clause ⊎ HasTwoOpen literals clause) clauses

-- a list at rest for the clauses holds the negation of every literal of the clause but one, which
-- is open in it
pub record ShowsNew (clauses : List (List ℤ)) (clause literals : List ℤ) (left : ℤ) : Type 0 where
  pub rest : IsAtRest clauses literals
  pub member : IsTrue (stands left clause)
  pub open_left : IsOpen literals left
  pub others : (literal : ℤ) → IsTrue (stands literal clause) → literal ≢ left →
      IsTrue (stands (neg_ℤ literal) literals)

-- a clause is new to clauses where some list at rest shows it
abbrev pub IsNew : List (List ℤ) → List ℤ → Type 0
IsNew clauses clause = (literals : List ℤ) × (left : ℤ) × ShowsNew clauses clause literals left

-- the literal stands in one of the clauses, whose other literals all stand negated in the list
abbrev pub IsForced : List (List ℤ) → List ℤ → ℤ → Type 0
IsForced clauses literals literal = Any
    (λ clause. IsTrue (stands literal clause)
    × ((other : ℤ) → IsTrue (stands other clause) → other ≢ literal →
    IsTrue (stands (neg_ℤ other) literals)))
    clauses

-- a unit conflict: each literal of the list is forced by those earlier in it, and every literal of
-- some one clause stands negated in it
pub record IsUnitConflict (clauses : List (List ℤ)) (literals : List ℤ) : Type 0 where
  pub each : (i : ℕ) (literal : ℤ) → slice_get literals i ≡ Some literal →
      IsForced clauses (take i literals) literal
  pub conflict : Any (λ clause. (literal : ℤ) → IsTrue (stands literal clause) →
      IsTrue (stands (neg_ℤ literal) literals)) clauses

-- a spent log for a budget: exactly that many steps, all derived, none empty, each new to the
-- clauses and those before it, and no unit conflict in all of them together
pub record IsSpentLog (clauses : List (List ℤ)) (steps : List Step) (budget : ℕ) : Type 0 where
  pub count : length steps ≡ budget
  pub derived : AllDerived clauses steps
  pub none_empty : All (λ step. step.clause ≢ []) steps
  pub each_new : (i : ℕ) (step : Step) → slice_get steps i ≡ Some step →
      IsNew (clauses ++ clauses_of (take i steps)) step.clause
  pub no_conflict : (literals : List ℤ) → IsUnitConflict (clauses ++ clauses_of steps) literals → ⊥
