-- Private: how the code goes. Graphs over signals, by number.
use Rattle.std.specs.Prelude.{◌≡◌, ◌<◌, ℕ, Bool, ◌==◌, ◌||◌, ◌&&◌, List, [], ◌∷◌, ◌++◌, length, map}
use Rattle.std.specs.Prelude.{filter, slice_index_or, slice_get, Option, Some, None, false, not}
use Rattle.std.specs.Prelude.{◌-◌, IsTrue, if◌then◌else◌}
use Rattle.std.specs.List.{range_with_len}
use Rattle.sv_flat.specs.Sets.{holds}
use Rattle.sv_graph.specs.Numbers.{numbers}
use Rattle.sv_graph.specs.declared.graphs.Graph.{Graph}

-- how many signals it is over
abbrev pub size : Graph → ℕ
size graph = length graph.rows.items

-- the signals that the edges of each signal lead to
abbrev pub rows_of : Graph → List (List ℕ)
rows_of graph = map (λ row. numbers row.items) graph.rows.items

-- those of one signal
abbrev pub row : Graph → ℕ → List ℕ
row graph a = slice_index_or (rows_of graph) a []

-- an edge leads from the first signal to the second
abbrev pub has_edge : Graph → (from to : ℕ) → Bool
has_edge graph a b = holds (row graph a) b

-- each edge leads to one of its signals
abbrev pub IsWhole : Graph → Type 0
IsWhole graph = (a b : ℕ) → IsTrue (has_edge graph a b) → b < size graph

-- one edge more, behind those of its signal
abbrev pub AddsEdge : (old new : Graph) → (from to : ℕ) → Type 0
AddsEdge old new from to = (a : ℕ) → row new a ≡ row old a ++ (if from == a then to ∷ [] else [])

-- edges more
abbrev pub GainsEdges : (old new : Graph) → (edges : ℕ → ℕ → Bool) → Type 0
GainsEdges old new edges = (a b : ℕ) → has_edge new a b ≡ (has_edge old a b || edges a b)

-- the edges of a graph of n signals turned round, in signal order
abbrev pub IsTurned : Graph → Graph → Type 0
IsTurned graph turned =
    (b : ℕ) → row turned b ≡ filter (λ a. has_edge graph a b) (range_with_len 0 (size graph))

-- a number that may be there is this one
abbrev pub is_last : Option ℕ → ℕ → Bool
is_last None k = false
is_last (Some m) k = m == k

-- the number is the last of a list
abbrev pub ends_in : List ℕ → ℕ → Bool
ends_in numbers k = is_last (slice_get numbers (length numbers - 1)) k

-- an edge, where it is not the last of its signal
abbrev pub AddsOnce : (old new : Graph) → (from to : ℕ) → Type 0
AddsOnce old new from to =
    (a : ℕ) → row new a ≡ row old a ++ (if (from == a) && not (ends_in (row old a) to) then to ∷ []
    else [])

-- an edge to one signal from each of some, where all edges so far lead to lower signals
abbrev pub AddsSources : (old new : Graph) → (sources : List ℕ) → (to : ℕ) → Type 0
AddsSources old new sources to =
    ((a b : ℕ) → IsTrue (has_edge old a b) → b < to)
    → (a : ℕ) → row new a ≡ row old a ++ (if holds sources a then to ∷ [] else [])
