-- Logs of resolution on plain lists.
use Rattle.std.specs.Prelude.{◌≡◌, ℕ, zero, suc, ◌-◌, ℤ, List, [], ◌∷◌, ◌++◌, map, length, Option}
use Rattle.std.specs.Prelude.{Some, None, IsSomeAnd, slice_get}
use Rattle.sv_clause.specs.Literals.{SameLiterals}
use Rattle.sv_clause.specs.Resolution.{IsResolvent}
use Rattle.sv_clause.specs.declared.logs.Derived.{Derived}
use Rattle.sv_clause.specs.declared.logs.Log.{Log}

-- a step of a log: a clause, and the numbers of the clauses that it is resolved from
pub record Step : Type 0 where
  pub clause : List ℤ
  pub chain : List ℕ

-- a step without where it lies in memory
abbrev pub plain_step : Derived → Step
plain_step derived = record { clause = derived.clause; chain = derived.chain.items }

-- a log without where it lies in memory
abbrev pub plain_log : Log → List Step
plain_log log = map plain_step log.steps.items

-- the clauses of the steps
abbrev pub clauses_of : List Step → List (List ℤ)
clauses_of steps = map (λ step. step.clause) steps

-- the clause of a number, counted from 1
abbrev pub numbered : List (List ℤ) → ℕ → Option (List ℤ)
numbered clauses zero = None
numbered clauses (suc n) = slice_get clauses n

-- from this clause on, resolving with each numbered one on the only clashing variable gives the
-- clause
abbrev pub ResolvesTo : List (List ℤ) → List ℤ → List ℕ → List ℤ → Type 0
ResolvesTo clauses from [] clause = SameLiterals from clause
ResolvesTo clauses from (number ∷ chain) clause =
    (next : List ℤ) × (literal : ℤ) × (resolvent : List ℤ) × (numbered clauses number ≡ Some next)
    × IsResolvent from next literal resolvent × ResolvesTo clauses resolvent chain clause

-- the chain begins with a numbered clause, and resolves with each next one to the clause
abbrev pub ChainGives : List (List ℤ) → List ℕ → List ℤ → Type 0
ChainGives clauses [] clause = ⊥
ChainGives clauses (number ∷ chain) clause =
    (from : List ℤ) × (numbered clauses number ≡ Some from) × ResolvesTo clauses from chain clause

-- a step is derived from clauses where its chain gives its clause
abbrev pub IsDerived : List (List ℤ) → Step → Type 0
IsDerived clauses step = ChainGives clauses step.chain step.clause

-- each step is derived from the clauses and those of the steps before it
abbrev pub AllDerived : List (List ℤ) → List Step → Type 0
AllDerived clauses [] = Unit {0}
AllDerived clauses (step ∷ steps) =
    IsDerived clauses step × AllDerived (clauses ++ step.clause ∷ []) steps

-- there is a last step, and its clause is empty
abbrev pub EndsEmpty : List Step → Type 0
EndsEmpty steps = IsSomeAnd (slice_get steps (length steps - 1)) (λ step. step.clause ≡ [])

-- a log refutes clauses where all its steps are derived and the last one is empty
pub record Refutes (clauses : List (List ℤ)) (steps : List Step) : Type 0 where
  pub derived : AllDerived clauses steps
  pub ends_empty : EndsEmpty steps
