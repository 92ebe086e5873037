-- What the solver answers.
use Rattle.std.specs.Prelude.{◌≡◌, ◌≢◌, ℕ, ◌+◌, ◌-◌, ◌^◌, ◌<◌, ◌≤◌, Bool, false, IsTrue, ℤ}
use Rattle.std.specs.Prelude.{unsigned_abs, List, [], length, take, All, AllPairs, slice_index_or}
use Rattle.sv_clause.specs.Literals.{stands, Satisfies}
use Rattle.sv_clause.specs.Logs.{Step, clauses_of, plain_log, Refutes}
use Rattle.sv_clause.specs.Units.{IsSpentLog}
use Rattle.sv_solve.specs.declared.solver.Solved.{Solved}
use Rattle.sv_solve.specs.declared.solver.Solved.TheVariants.{Found, Refuted, Spent}

-- every literal of the clause is of a variable up to this one
abbrev pub IsWithin : ℕ → List ℤ → Type 0
IsWithin variables clause =
    (literal : ℤ) → IsTrue (stands literal clause) → unsigned_abs literal ≤ variables

-- the value of each variable, the first of the list for variable 1
abbrev pub value_of : List Bool → ℕ → Bool
value_of values variable = slice_index_or values (variable - 1) false

-- the last step alone is empty
abbrev pub OnlyLastIsEmpty : List Step → Type 0
OnlyLastIsEmpty steps = All (λ step. step.clause ≢ []) (take (length steps - 1) steps)

-- the clauses of the steps are pairwise different
abbrev pub AreDifferent : List Step → Type 0
AreDifferent steps = AllPairs (λ one other. one ≢ other) (clauses_of steps)

-- a fact for the values that were found
abbrev pub WhereFound : (List Bool → Type 0) → Solved → Type 0
WhereFound fact (Found values) = fact values.items
WhereFound fact (Refuted log) = Unit {0}
WhereFound fact (Spent log) = Unit {0}

-- a fact for the steps of a refutation
abbrev pub WhereRefuted : (List Step → Type 0) → Solved → Type 0
WhereRefuted fact (Found values) = Unit {0}
WhereRefuted fact (Refuted log) = fact (plain_log log)
WhereRefuted fact (Spent log) = Unit {0}

-- a fact for the steps of a spent log
abbrev pub WhereSpent : (List Step → Type 0) → Solved → Type 0
WhereSpent fact (Found values) = Unit {0}
WhereSpent fact (Refuted log) = Unit {0}
WhereSpent fact (Spent log) = fact (plain_log log)

-- the answer is no spent log
abbrev pub IsNotSpent : Solved → Type 0
IsNotSpent answer = WhereSpent (λ _. ⊥) answer

-- what is said of each answer
abbrev pub IsAnswer : ℕ → List (List ℤ) → ℕ → Solved → Type 0
IsAnswer variables clauses budget (Found values) =
    (length values.items ≡ variables) × Satisfies (value_of values.items) clauses
IsAnswer variables clauses budget (Refuted log) =
    Refutes clauses (plain_log log) × OnlyLastIsEmpty (plain_log log)
    × (length (plain_log log) ≤ budget + 1)
IsAnswer variables clauses budget (Spent log) =
    IsSpentLog clauses (plain_log log) budget × AreDifferent (plain_log log)
    × (budget < 3 ^ variables)
