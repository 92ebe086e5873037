-- Private: how the code goes. What a search comes to.
use Rattle.std.specs.Prelude.{◌≡◌, ℕ, ◌+◌, ◌^◌, ◌<◌, ℤ, List, [], length, All}
use Rattle.sv_clause.specs.Logs.{plain_log, Refutes}
use Rattle.sv_clause.specs.Units.{IsAtRest, IsSpentLog}
use Rattle.sv_clause.specs.declared.logs.Log.{Log}
use Rattle.sv_solve.specs.Lists.{Assigned, AllAssigned}
use Rattle.sv_solve.specs.Search.{IsClauseOf}
use Rattle.sv_solve.specs.Known.{Known, clauses_known}
use Rattle.sv_solve.specs.Answers.{OnlyLastIsEmpty, AreDifferent}
use Rattle.sv_solve.specs.declared.solver.Solved.{Solved}
use Rattle.sv_solve.specs.declared.solver.Solved.TheVariants as solved
use Rattle.sv_solve.specs.declared.state.Begun.{Begun}
use Rattle.sv_solve.specs.declared.state.Begun.TheVariants as begun
use Rattle.sv_solve.specs.declared.search.SearchOutcome.{SearchOutcome}
use Rattle.sv_solve.specs.declared.search.SearchOutcome.TheVariants as outcome

-- the log refutes the given clauses with one step more than was learned, which alone is empty
pub record IsRefutation (known : Known) (log : Log) : Type 0 where
  pub refutes : Refutes known.given (plain_log log)
  pub last : OnlyLastIsEmpty (plain_log log)
  pub size : length (plain_log log) ≡ length known.steps + 1

-- the log holds all that was learned, is spent in full, and is shorter than there are clauses
abbrev pub IsSpent : Known → Log → Type 0
IsSpent known log =
    IsSpentLog known.given (plain_log log) (length known.steps) × AreDifferent (plain_log log)
    × (length known.steps < 3 ^ known.variables)

-- nothing is learned yet
abbrev pub IsFresh : ℕ → List (List ℤ) → Known → Type 0
IsFresh variables clauses known =
    (known.given ≡ clauses) × (known.steps ≡ []) × (known.variables ≡ variables)

-- the search begins with the given clauses, or they are refuted
abbrev pub IsBegun : ℕ → List (List ℤ) → Begun → Type 0
IsBegun variables clauses (begun.Ready state) = IsFresh variables clauses state.known
IsBegun variables clauses (begun.Refuted log) =
    (known : Known) × IsFresh variables clauses known × IsRefutation known log

-- all variables of the clauses are assigned, and the clauses are at rest
pub record IsFound (known : Known) (trail : Assigned) : Type 0 where
  pub variables : trail.variables ≡ known.variables
  pub of : All (IsClauseOf known.variables) (clauses_known known)
  pub assigned : AllAssigned known.variables trail.literals
  pub rest : IsAtRest (clauses_known known) trail.literals

-- all variables are assigned at rest, or the clauses are refuted, or one more is learned
abbrev pub IsSearchOutcome : Known → SearchOutcome → Type 0
IsSearchOutcome known (outcome.Found trail) = IsFound known trail
IsSearchOutcome known (outcome.Refuted log) = IsRefutation known log
IsSearchOutcome known (outcome.Learned state) =
    (state.known.given ≡ known.given) × (length state.known.steps ≡ length known.steps + 1)
    × (state.known.variables ≡ known.variables)

-- the clauses are refuted after all, or the log is spent
abbrev pub IsSpending : Known → Solved → Type 0
IsSpending known (solved.Found values) = ⊥
IsSpending known (solved.Refuted log) = IsRefutation known log
IsSpending known (solved.Spent log) = IsSpent known log
