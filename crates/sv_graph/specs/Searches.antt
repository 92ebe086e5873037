-- Private: how the code goes. Searches through graphs.
use Rattle.std.specs.Prelude.{◌≡◌, ◌<◌, ◌⊎◌, ◌+◌, ℕ, Bool, ◌&&◌, ◌||◌, nat_lt, nat_le, List, []}
use Rattle.std.specs.Prelude.{◌∷◌, ◌++◌, length, map, slice_set, slice_index_or, Option, Some, None}
use Rattle.std.specs.Prelude.{is_some, is_none, count_by, IsTrue, Contains, if◌then◌else◌}
use Rattle.std.specs.Prelude.{slice_index}
use Rattle.sv_flat.specs.Sets.{holds, least_set}
use Rattle.sv_graph.specs.declared.graphs.Graph.{Graph}
use Rattle.sv_graph.specs.declared.searches.Search.{Search}
use Rattle.sv_graph.specs.declared.searches.Visit.{Visit}
use Rattle.sv_graph.specs.Graphs.{size, has_edge}

-- what was found, in order, and the places that led to it
abbrev pub found_by : Search → List ℕ
found_by search = map (λ (visit : Visit). visit.signal.0) search.visits.items

abbrev pub led_by : Search → List ℕ
led_by search = map (λ (visit : Visit). visit.from) search.visits.items

-- the place of a signal among what was found
abbrev pub place_of : Search → ℕ → Option ℕ
place_of search s = slice_index_or search.places.items s None

abbrev pub is_found : Search → ℕ → Bool
is_found search s = is_some (place_of search s)

-- The signals found so far, the places that led to them, and the place of each signal. What is
-- found is in the least set with some starts and what its members bring along, and what the signals
-- at places below `place` bring along is found.
pub record Searches (n : ℕ) (brings : ℕ → ℕ →
    Bool) (starts : List ℕ) (place : ℕ) (found led : List ℕ) (places : List (Option ℕ)) :
    Type 0 where
  pub size : length places ≡ n
  pub led_size : length led ≡ length found
  pub few : count_by is_none places + length found ≡ n
  pub known : (s i : ℕ) → slice_index_or places s None ≡ Some i →
      (i < length found) × (slice_index_or found i 0 ≡ s)
  pub numbered : (i : ℕ) → i < length found →
      slice_index_or places (slice_index_or found i 0) None ≡ Some i
  pub within : (i : ℕ) → i < length found → slice_index_or found i 0 < n
  pub reached : (i : ℕ) → i < length found →
      Contains (least_set n brings starts) (slice_index_or found i 0)
  pub closed : (i b : ℕ) → i < place → b < n → IsTrue (brings (slice_index_or found i 0) b)
      → IsTrue (is_some (slice_index_or places b None))
  pub led_on : (i : ℕ) → i < length found
      → Contains starts (slice_index_or found i 0)
      ⊎ ((slice_index_or led i 0 < i)
      × IsTrue (brings (slice_index_or found (slice_index_or led i 0) 0)
      (slice_index_or found i 0)))

abbrev pub SearchesBy : (n : ℕ) → (brings : ℕ → ℕ → Bool) → (starts : List ℕ) → (place : ℕ) →
    Search → Type 0
SearchesBy n brings starts place search =
    Searches n brings starts place (found_by search) (led_by search) search.places.items

-- a signal brings along those that its edges lead to, those below the least left out
abbrev pub Brings : Graph → (least : ℕ) → (brings : ℕ → ℕ → Bool) → Type 0
Brings graph least brings = (a b : ℕ) → brings a b ≡ (has_edge graph a b && nat_le least b)

-- a signal of the search leads on
abbrev pub LeadsOn : Graph → (least place : ℕ) → (old new : Search) → Type 0
LeadsOn graph least place old new =
    (brings : ℕ → ℕ → Bool) (starts : List ℕ) → Brings graph least brings
    → ((k : ℕ) → Contains starts k → k < size graph)
    → SearchesBy (size graph) brings starts place old
    → SearchesBy (size graph) brings starts (place + 1) new
    × ((s : ℕ) → IsTrue (is_found old s) → IsTrue (is_found new s))
    × (place < length (found_by new))

-- the search found the least set with some starts and what its members bring along
pub record IsSearch (n : ℕ) (brings : ℕ → ℕ → Bool) (starts : List ℕ) (search : Search) :
    Type 0 where
  pub ended : SearchesBy n brings starts (length (found_by search)) search
  pub has : (s : ℕ) → s < n → is_found search s ≡ holds (least_set n brings starts) s

-- it is below the least signal, or was found before
abbrev pub is_passed : Search → (least signal : ℕ) → Bool
is_passed search least s = nat_lt s least || is_found search s

-- a signal more, where it is not passed
abbrev pub Visits : (old new : Search) → (least signal from : ℕ) → Type 0
Visits old new least s from =
    (found_by new ≡ (if is_passed old least s then found_by old else found_by old ++ s ∷ []))
    × (led_by new ≡ (if is_passed old least s then led_by old else led_by old ++ from ∷ []))
    × (new.places.items
    ≡ (if is_passed old least s then old.places.items
    else slice_set old.places.items s (Some (length (found_by old)))))

-- every signal but the first was led to from an earlier place
abbrev pub LeadsDown : Search → Type 0
LeadsDown search =
    (i : ℕ) → 0 < i → i < length (found_by search) → slice_index (led_by search) i < i

-- the signals on the way back from a place to the first one: the one there, the one at the place
-- that led to it, and so on, the first one left out
abbrev pub IsWayBack : Search → (place : ℕ) → List ℕ → Type 0
IsWayBack search place [] = place ≡ 0
IsWayBack search place (s ∷ way) =
    (0 < place) × (slice_index (found_by search) place ≡ s)
    × IsWayBack search (slice_index (led_by search) place) way

-- a list with the way back from a place behind it
abbrev pub AddsWayBack : Search → (place : ℕ) → (old new : List ℕ) → Type 0
AddsWayBack search place old new =
    (way : List ℕ) × (new ≡ old ++ way) × IsWayBack search place way
