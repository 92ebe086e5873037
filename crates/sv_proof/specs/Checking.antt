-- Why a log does not refute clauses.
use Rattle.std.specs.Prelude.{◌≡◌, ℕ, ◌<◌, ℤ, List, ◌++◌, length, take, Some, slice_get}
use Rattle.sv_clause.specs.Logs.{Step as LogStep, clauses_of, IsDerived, AllDerived, EndsEmpty}
use Rattle.sv_proof.specs.declared.check.LogFault.{LogFault}
use Rattle.sv_proof.specs.declared.check.LogFault.TheVariants.{Step, NotEmpty, OutOfMemory}

-- the steps before this place are derived, and the one at it is not
pub record IsFirstUnderived (clauses : List (List ℤ)) (steps : List LogStep) (i : ℕ) : Type 0 where
  pub inside : i < length steps
  pub before : AllDerived clauses (take i steps)
  pub underived : (step : LogStep) → slice_get steps i ≡ Some step →
      IsDerived (clauses ++ clauses_of (take i steps)) step → ⊥

-- the fault that a log has: its first step that is not derived, or, where all are derived, that it
-- does not end with the empty clause; want of memory says nothing
abbrev pub HasFault : List (List ℤ) → List LogStep → LogFault → Type 0
HasFault clauses steps (Step i) = IsFirstUnderived clauses steps i
HasFault clauses steps NotEmpty = AllDerived clauses steps × (EndsEmpty steps → ⊥)
HasFault clauses steps OutOfMemory = Unit {0}
