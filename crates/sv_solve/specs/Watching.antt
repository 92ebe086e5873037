-- Private: how the code goes. Watched literals: two of each clause that has two or more, and for
-- each literal the clauses that watch it.
use Rattle.std.specs.Prelude.{◌≡◌, ◌≢◌, ℕ, ◌+◌, ◌*◌, ◌<◌, ◌≤◌, ◌⊎◌, nat_eq, IsTrue, ℤ, neg_ℤ, List}
use Rattle.std.specs.Prelude.{[], length, take, All, count_by, Option, Some, None, slice_index_or}
use Rattle.std.specs.Prelude.{if◌then◌else◌}
use Rattle.std.specs.Bool.{IsFalse}
use Rattle.sv_clause.specs.Literals.{stands}
use Rattle.sv_clause.specs.Units.{HasOneIn, IsOpen}
use Rattle.sv_solve.specs.Codes.{code_of, IsOf}
use Rattle.sv_solve.specs.Lists.{Assigned}
use Rattle.sv_solve.specs.Search.{AllFalse, OthersFalse, ImpliedFrom}
use Rattle.sv_solve.specs.declared.watches.Pair.{Pair}
use Rattle.sv_solve.specs.declared.watches.Demand.{Demand}
use Rattle.sv_solve.specs.declared.watches.Demand.TheVariants.{Held, Next, Forced, Conflict}

-- one of the pair is this literal
abbrev pub HasInPair : Pair → ℤ → Type 0
HasInPair pair literal = (pair.one ≡ literal) ⊎ (pair.other ≡ literal)

-- the pair is of these two literals
abbrev pub ArePair : Pair → ℤ → ℤ → Type 0
ArePair pair one other =
    ((pair.one ≡ one) × (pair.other ≡ other)) ⊎ ((pair.one ≡ other) × (pair.other ≡ one))

-- the two watched literals of each clause, none where it has fewer than two; and by a literal's
-- number the clauses that watch it
pub record Watching : Type 0 where
  pub pairs : List (Option Pair)
  pub lists : List (List ℕ)
  pub variables : ℕ

-- the pair of the clause at a place
abbrev pub pair_at : List (Option Pair) → ℕ → Option Pair
pair_at pairs place = slice_index_or pairs place None

-- the places of the clauses that watch a literal
abbrev pub watching_list : Watching → ℤ → List ℕ
watching_list watching literal = slice_index_or watching.lists (code_of literal) []

-- how many of a pair are the literal of this number
abbrev pub times_watched : Option Pair → ℕ → ℕ
times_watched None code = 0
times_watched (Some pair) code =
    (if nat_eq (code_of pair.one) code then 1 else 0) + (if nat_eq (code_of pair.other) code
    then 1 else 0)

-- each clause stands once in the list of each literal that it watches, and in no other list
pub record IsListed (watching : Watching) : Type 0 where
  pub size : length watching.lists ≡ 2 * watching.variables + 2
  pub counted : (code place : ℕ) → code < length watching.lists
      → count_by (nat_eq place) (slice_index_or watching.lists code []) ≡
      times_watched (pair_at watching.pairs place) code

-- a clause of two or more literals watches two of them, any other none
abbrev pub IsPairOf : List ℤ → Option Pair → Type 0
IsPairOf clause None = length clause < 2
IsPairOf clause (Some pair) =
    (pair.one ≢ pair.other) × IsTrue (stands pair.one clause) × IsTrue (stands pair.other clause)

-- a pair is of two literals of variables up to this one
abbrev pub IsPairWithin : ℕ → Option Pair → Type 0
IsPairWithin variables None = Unit {0}
IsPairWithin variables (Some pair) =
    (pair.one ≢ pair.other) × IsOf variables pair.one × IsOf variables pair.other

-- each clause has its pair
pub record IsFitting (clauses : List (List ℤ)) (pairs : List (Option Pair)) : Type 0 where
  pub count : length pairs ≡ length clauses
  pub each : (place : ℕ) → place < length clauses →
      IsPairOf (slice_index_or clauses place []) (pair_at pairs place)

-- where a watched literal is false in one list of literals, the other is true in another
abbrev pub IsHeld : List ℤ → List ℤ → Option Pair → Type 0
IsHeld before now None = Unit {0}
IsHeld before now (Some pair) =
    (IsTrue (stands (neg_ℤ pair.one) before) → IsTrue (stands pair.other now))
    × (IsTrue (stands (neg_ℤ pair.other) before) → IsTrue (stands pair.one now))

-- this holds of all pairs
abbrev pub AllHeld : List (Option Pair) → List ℤ → List ℤ → Type 0
AllHeld pairs before now = (place : ℕ) → IsHeld before now (pair_at pairs place)

-- among the first literals, each false watched literal has the other one true
abbrev pub IsSettledAt : List (Option Pair) → List ℤ → ℕ → Type 0
IsSettledAt pairs literals place = AllHeld pairs (take place literals) (take place literals)

-- no clause is empty, and the literal of each clause of one is true
abbrev pub UnitsTrue : List (List ℤ) → List ℤ → Type 0
UnitsTrue clauses literals = All (λ clause. length clause < 2 → HasOneIn literals clause) clauses

-- every literal of the first list stands in the second
abbrev pub IsPart : List ℤ → List ℤ → Type 0
IsPart part literals =
    (literal : ℤ) → IsTrue (stands literal part) → IsTrue (stands literal literals)

-- what the old pairs hold of any two parts of the literals, the new ones hold too
abbrev pub KeepsHeld : List (Option Pair) → List (Option Pair) → List ℤ → Type 0
KeepsHeld old new literals =
    (before now : List ℤ) → IsPart before literals → IsPart now literals → AllHeld old before now →
    AllHeld new before now

-- the trail goes on from an old one by literals that the clauses make true
pub record Extends (clauses : List (List ℤ)) (old new : Assigned) : Type 0 where
  pub older : take (length old.literals) new.literals ≡ old.literals
  pub longer : length old.literals ≤ length new.literals
  pub reasons : (place : ℕ) → place < length old.literals →
      slice_index_or new.reasons place 0 ≡ slice_index_or old.reasons place 0
  pub implied : (from : ℕ) → ImpliedFrom clauses old from → ImpliedFrom clauses new from
  pub variables : new.variables ≡ old.variables

-- watching and trail go on from old ones: each clause is still watched by its pair, and what pairs
-- held they still hold
pub record Proceeds (clauses : List (List ℤ)) (old : Watching) (was : Assigned) (new : Watching)
    (trail : Assigned) : Type 0 where
  pub fitting : IsFitting clauses new.pairs
  pub listed : IsListed new
  pub variables : new.variables ≡ old.variables
  pub keeps : KeepsHeld old.pairs new.pairs was.literals
  pub extends : Extends clauses was trail

-- what is true of a clause of which one watched literal is false and the other one kept, as it is
-- looked at
abbrev pub IsDemand : List ℤ → List ℤ → ℤ → Demand → Type 0
IsDemand literals clause kept Held = IsTrue (stands kept literals)
IsDemand literals clause kept (Next next) =
    (next ≢ kept) × IsTrue (stands next clause) × IsFalse (stands (neg_ℤ next) literals)
IsDemand literals clause kept Forced = OthersFalse literals clause kept × IsOpen literals kept
IsDemand literals clause kept Conflict = AllFalse literals clause
