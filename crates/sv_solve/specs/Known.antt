-- Private: how the code goes. What the solver knows: the clauses that it was given, and the steps
-- that it learned.
use Rattle.std.specs.Prelude.{◌≡◌, ℕ, ℤ, List, ◌++◌, take, All, Some, slice_get}
use Rattle.sv_clause.specs.Logs.{Step, clauses_of, AllDerived}
use Rattle.sv_clause.specs.Units.{IsNew}
use Rattle.sv_solve.specs.Search.{IsClauseOf}

-- the given clauses, the learned steps, and the number of variables
pub record Known : Type 0 where
  pub given : List (List ℤ)
  pub steps : List Step
  pub variables : ℕ

-- all clauses that are known
abbrev pub clauses_known : Known → List (List ℤ)
clauses_known known = known.given ++ clauses_of known.steps

-- each step is new to the given clauses and those of the steps before it
abbrev pub EachNew : List (List ℤ) → List Step → Type 0
EachNew given steps =
    (i : ℕ) (step : Step) → slice_get steps i ≡ Some step →
    IsNew (given ++ clauses_of (take i steps)) step.clause

-- the kept clauses are the known ones, and every learned step is derived and new
pub record IsKnown (known : Known) (kept : List (List ℤ)) : Type 0 where
  pub kept_is : kept ≡ clauses_known known
  pub of : All (IsClauseOf known.variables) kept
  pub derived : AllDerived known.given known.steps
  pub each_new : EachNew known.given known.steps
