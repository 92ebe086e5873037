-- Private: how the code goes. What the search holds at each moment.
use Rattle.std.specs.Prelude.{◌≡◌, ℕ, ◌<◌, ◌≤◌, ◌^◌, ℤ, List, length, take, All, AllPairs, Contains}
use Rattle.std.specs.Prelude.{Option, ◌⊎◌}
use Rattle.sv_clause.specs.Units.{IsAtRest}
use Rattle.sv_solve.specs.Lists.{Assigned}
use Rattle.sv_solve.specs.Search.{IsImpliedAt}
use Rattle.sv_solve.specs.Known.{Known, clauses_known}
use Rattle.sv_solve.specs.Watching.{Watching, IsListed, IsFitting, AllHeld, IsSettledAt, UnitsTrue}
use Rattle.sv_solve.specs.declared.watches.Pair.{Pair}

-- what a contract sees of that: what is known, the trail, the places of its decisions, and how many
-- literals have been propagated
pub record Searching : Type 0 where
  pub known : Known
  pub trail : Assigned
  pub decisions : List ℕ
  pub propagated : ℕ

-- each literal was decided, or is made true by its reason and those before it
abbrev pub IsReasoned : List (List ℤ) → Assigned → List ℕ → Type 0
IsReasoned clauses trail decisions =
    (place : ℕ) → place < length trail.literals →
    Contains decisions place ⊎ IsImpliedAt clauses trail place

-- below a decision: each false watched literal has the other one true, no clause is empty, each of
-- one literal is true, and so all clauses are at rest
pub record IsLevel (clauses : List (List ℤ)) (pairs : List (Option Pair)) (literals : List ℤ)
    (decision : ℕ) : Type 0 where
  pub settled : IsSettledAt pairs literals decision
  pub units : UnitsTrue clauses (take decision literals)
  pub rest : IsAtRest clauses (take decision literals)

-- the state of the search: what is known, the trail, the places of its decisions, the watched
-- literals, and how many literals have been propagated
pub record SearchState : Type 0 where
  pub known : Known
  pub trail : Assigned
  pub decisions : List ℕ
  pub watching : Watching
  pub propagated : ℕ

-- the clauses are watched; what was propagated is settled; and every decision level stands on
-- clauses at rest
pub record IsSearching (state : SearchState) : Type 0 where
  pub small : state.known.variables < 2 ^ 31
  pub trail_variables : state.trail.variables ≡ state.known.variables
  pub watch_variables : state.watching.variables ≡ state.known.variables
  pub fitting : IsFitting (clauses_known state.known) state.watching.pairs
  pub listed : IsListed state.watching
  pub units : UnitsTrue (clauses_known state.known) state.trail.literals
  pub progress : state.propagated ≤ length state.trail.literals
  pub held : AllHeld state.watching.pairs (take state.propagated state.trail.literals)
      state.trail.literals
  pub reasoned : IsReasoned (clauses_known state.known) state.trail state.decisions
  pub ascend : AllPairs ◌<◌ state.decisions
  pub below : All (λ decision.
      (decision < length state.trail.literals) × (decision ≤ state.propagated)) state.decisions
  pub levels : All (IsLevel (clauses_known state.known) state.watching.pairs state.trail.literals)
      state.decisions
