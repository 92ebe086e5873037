-- Private: how the code goes. What a false clause teaches: a clause of which one literal is left
-- once the newest decision is taken back.
use Rattle.std.specs.Prelude.{◌≡◌, ◌≢◌, ℕ, ◌-◌, ◌<◌, ◌≤◌, IsTrue, ℤ, pos, neg_ℤ, List, length, take}
use Rattle.std.specs.Prelude.{Option, Some, None, slice_index_or, All, Contains}
use Rattle.std.specs.Bool.{IsFalse}
use Rattle.sv_clause.specs.Literals.{stands}
use Rattle.sv_clause.specs.Units.{IsOpen}
use Rattle.sv_solve.specs.Search.{OthersFalse}

-- the latest of the clause's other literals to become false, none where there is no other one
abbrev pub IsLatest : List ℤ → List ℤ → ℤ → ℕ → Option ℤ → Type 0
IsLatest trail clause first keep None = (length clause < 2) × (keep ≡ 0)
IsLatest trail clause first keep (Some other) =
    (other ≢ first) × IsTrue (stands other clause) × (0 < keep)
    × IsFalse (stands (neg_ℤ other) (take (keep - 1) trail))

-- a clause of which one literal is left before the mark: it is open there, and the first `keep`
-- literals make the others false
pub record IsAsserting (trail : List ℤ) (mark : ℕ) (clause : List ℤ) (first : ℤ) (other : Option ℤ)
    (keep : ℕ) : Type 0 where
  pub early : keep ≤ mark
  pub member : IsTrue (stands first clause)
  pub open_first : IsOpen (take mark trail) first
  pub others : OthersFalse (take keep trail) clause first
  pub latest : IsLatest trail clause first keep other

-- a literal of the trail from one place to another makes this one false
abbrev pub BecameFalse : List ℤ → ℤ → ℕ → ℕ → Type 0
BecameFalse trail literal from to =
    (i : ℕ) × (from ≤ i) × (i < to) × (slice_index_or trail i (pos 0) ≡ neg_ℤ literal)

-- a conflict clause minimized down to the bound: a first literal and others, which became false
-- from the bound on; the last of the first `keep` literals makes one of them false
pub record IsMinimized (trail : List ℤ) (first : ℤ) (literals : List ℤ) (bound keep mark : ℕ) :
    Type 0 where
  pub early : keep ≤ mark
  pub reach : 0 < keep → bound ≤ keep
  pub member : IsTrue (stands first literals)
  pub others : (literal : ℤ) → IsTrue (stands literal literals) → literal ≢ first →
      BecameFalse trail literal bound keep
  pub latest : 0 < keep → IsTrue (stands (neg_ℤ (slice_index_or trail (keep - 1) (pos 0))) literals)

-- every literal of the clause but one is seen
abbrev pub OthersSeen : List ℤ → List ℤ → ℤ → Type 0
OthersSeen seen clause left =
    (literal : ℤ) → IsTrue (stands literal clause) → literal ≢ left → IsTrue (stands literal seen)

-- the literal of the trail at the place is seen negated
abbrev pub IsSeenAt : List ℤ → List ℤ → ℕ → Type 0
IsSeenAt seen trail place = IsTrue (stands (neg_ℤ (slice_index_or trail place (pos 0))) seen)

-- the places below the bound whose literals are seen negated
pub record ArePlaces (seen trail : List ℤ) (places : List ℕ) (bound : ℕ) : Type 0 where
  pub below : All (λ place. place < bound) places
  pub each : All (IsSeenAt seen trail) places
  pub every : (place : ℕ) → place < bound → IsSeenAt seen trail place → Contains places place
