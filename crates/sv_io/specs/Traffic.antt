-- What the outside is at a time: the files, the input and the output; and what passes between two
-- times.
use Rattle.std.specs.Prelude.{◌≡◌, ℕ, ◌≤◌, Bool, true, false, List, [], ◌++◌, ◌∷◌, take, length}
use Rattle.std.specs.Prelude.{Option, Some, IsTrue, All}
use Rattle.sv_io.specs.Cabinet.{bytes_under, KeepsOrBegins}
use Rattle.sv_io.specs.Count.{Rose}
use Rattle.sv_io.specs.Exchange.{Exchange, Fetched, fetched, stored, whole, too_long, nothing}

-- what was exchanged with the files so far, what is held under each name, and how often fetches and
-- stores of each name failed
pub record Files : Type 0 where
  pub exchanges : List Exchange
  pub held : List ℕ → Option (List ℕ)
  pub fetch_faults : List ℕ → ℕ
  pub store_faults : List ℕ → ℕ

-- what the input gave so far, what it has left, whether its end was shown, and how often it failed
pub record Input : Type 0 where
  pub given : List ℕ
  pub left : List ℕ
  pub ended : Bool
  pub faults : ℕ

-- what the output accepted so far, and how often it failed
pub record Output : Type 0 where
  pub accepted : List ℕ
  pub faults : ℕ

pub record Traffic : Type 0 where
  pub files : Files
  pub input : Input
  pub output : Output

-- each of an object of which these are the views
abbrev pub files_by : {C : Type 0} → (C → List Exchange) → (C → List ℕ → Option (List ℕ)) →
    (C → List ℕ → ℕ) → (C → List ℕ → ℕ) → C → Files
files_by exchanges held fetch_faults store_faults cabinet = record {
  exchanges = exchanges cabinet;
  held = held cabinet;
  fetch_faults = fetch_faults cabinet;
  store_faults = store_faults cabinet;
}

abbrev pub input_by : {S : Type 0} → (S → List ℕ) → (S → List ℕ) → (S → Bool) → (S → ℕ) → S → Input
input_by given left ended faults source = record {
  given = given source;
  left = left source;
  ended = ended source;
  faults = faults source;
}

abbrev pub output_by : {K : Type 0} → (K → List ℕ) → (K → ℕ) → K → Output
output_by accepted faults sink = record { accepted = accepted sink; faults = faults sink }

-- ---- what passes between the program and the files

-- what was handed out is what is held, or the first of it
abbrev pub HandsOut : (held : List ℕ) → Fetched → Type 0
HandsOut held (whole bytes) = bytes ≡ held
HandsOut held (too_long bytes) = (bytes ≡ take (length bytes) held) × (length bytes ≤ length held)
HandsOut held nothing = Unit {0}

abbrev pub IsTold : (held : List ℕ → Option (List ℕ)) → Exchange → Type 0
IsTold held (fetched name got) = HandsOut (bytes_under held name) got
IsTold held (stored name bytes is_done) = Unit {0}

-- a store leaves what it stored under its name or, where it failed, what was there or the first of
-- the new bytes
abbrev pub IsLeft : (held_old held_new : List ℕ → Option (List ℕ)) → Exchange → Type 0
IsLeft old new (fetched name got) = Unit {0}
IsLeft old new (stored name bytes true) = new name ≡ Some bytes
IsLeft old new (stored name bytes false) = KeepsOrBegins (old name) bytes (new name)

-- the exchange is a store under the name
abbrev pub IsStoreOf : (name : List ℕ) → Exchange → Type 0
IsStoreOf name (fetched other got) = ⊥
IsStoreOf name (stored other bytes is_done) = other ≡ name

-- These were exchanged. Where the files tell what they hold, it is what was handed out, and what
-- was stored stands under its name; under no other name anything changed.
pub record Passed (tells : Bool) (old new : Files) (exchanges : List Exchange) : Type 0 where
  pub called : new.exchanges ≡ old.exchanges ++ exchanges
  pub told : IsTrue tells → All (IsTold old.held) exchanges
  pub left : IsTrue tells → All (IsLeft old.held new.held) exchanges
  pub others : (name : List ℕ) → All (λ exchange. IsStoreOf name exchange → ⊥) exchanges
      → new.held name ≡ old.held name

-- ---- faults

-- an exchange that handed out nothing, or that stored not all
abbrev pub IsFailed : Exchange → Type 0
IsFailed (fetched name nothing) = Unit {0}
IsFailed (fetched name got) = ⊥
IsFailed (stored name bytes true) = ⊥
IsFailed (stored name bytes false) = Unit {0}

-- the last exchange is a fetch that handed out nothing, and the count of its name rose
pub record FailsToFetch (old new : Files) (exchanges : List Exchange) : Type 0 where
  pub before : List Exchange
  pub name : List ℕ
  pub last : exchanges ≡ before ++ fetched name nothing ∷ []
  pub rose : Rose (old.fetch_faults name) (new.fetch_faults name)

-- the last exchange is a store that failed, and the count of its name rose
pub record FailsToStore (old new : Files) (exchanges : List Exchange) : Type 0 where
  pub before : List Exchange
  pub name : List ℕ
  pub bytes : List ℕ
  pub last : exchanges ≡ before ++ stored name bytes false ∷ []
  pub rose : Rose (old.store_faults name) (new.store_faults name)
