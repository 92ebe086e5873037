-- Private: how the code goes. Graphs over signals, by bits.
use Rattle.std.specs.Prelude.{◌≡◌, ◌<◌, ◌+◌, ◌/◌, ◌%◌, ℕ, Bool, ◌||◌, List, [], ◌∷◌, length, map}
use Rattle.std.specs.Prelude.{filter, slice_index_or, IsTrue}
use Rattle.std.specs.List.{list_any, range_with_len}
use Rattle.std.specs.declared.alloc.Global.{Global}
use Rattle.std.specs.declared.vec.Vec.{Vec}
use Rattle.sv_flat.specs.Sets.{least_set}
use Rattle.sv_graph.specs.declared.bit_graphs.BitGraph.{BitGraph}
use Rattle.sv_graph.specs.declared.bit_sets.BitSet.{BitSet}
use Rattle.sv_graph.specs.declared.graphs.Graph.{Graph}
use Rattle.sv_graph.specs.BitSets.{is_set, has_some}
use Rattle.sv_graph.specs.Graphs.{row as graph_row}

-- ---- rows

-- the row has the bit of the signal
abbrev pub in_row : List ℕ → ℕ → Bool
in_row row s = is_set (slice_index_or row (s / 64) 0) (s % 64)

-- how many words have the bits of n signals
abbrev pub words : ℕ → ℕ
words n = n / 64 + 1

-- the row has room for n signals, and bits of no others
abbrev pub IsRow : ℕ → List ℕ → Type 0
IsRow n row = (length row ≡ words n) × ((s : ℕ) → IsTrue (in_row row s) → s < n)

-- the row has room for the signals of the set
abbrev pub HasRoom : List ℕ → BitSet → Type 0
HasRoom row set = (s : ℕ) → IsTrue (has_some set s) → s / 64 < length row

-- more bits in the row
abbrev pub GainsBits : (old new : List ℕ) → (more : ℕ → Bool) → Type 0
GainsBits old new more = (s : ℕ) → in_row new s ≡ (in_row old s || more s)

-- ---- graphs

-- how many signals it is over
abbrev pub size : BitGraph → ℕ
size graph = length graph.rows.items

-- the bits of one signal's edges
abbrev pub row : BitGraph → ℕ → List ℕ
row graph a = slice_index_or (map (λ (v : Vec ℕ Global). v.items) graph.rows.items) a []

-- an edge leads from the first signal to the second
abbrev pub has_edge : BitGraph → (from to : ℕ) → Bool
has_edge graph a b = in_row (row graph a) b

-- it is over n signals, to which its edges lead
abbrev pub IsOver : ℕ → BitGraph → Type 0
IsOver n graph = (size graph ≡ n) × ((a : ℕ) → a < n → IsRow n (row graph a))

-- edges more
abbrev pub GainsEdges : (old new : BitGraph) → (edges : ℕ → ℕ → Bool) → Type 0
GainsEdges old new edges = (a b : ℕ) → has_edge new a b ≡ (has_edge old a b || edges a b)

-- the edges turned round, in signal order
abbrev pub IsTurned : BitGraph → Graph → Type 0
IsTurned graph turned =
    (b : ℕ) → graph_row turned b ≡ filter (λ a. has_edge graph a b) (range_with_len 0 (size graph))

-- ---- ways

-- what leads to a signal over edges, one after the other, and the signal itself
abbrev pub before : (n : ℕ) → (edges : ℕ → ℕ → Bool) → ℕ → List ℕ
before n edges b = least_set n (λ m k. edges k m) (b ∷ [])

-- an edge leads from the first signal to the second, or to one from which other edges, one after the
-- other, lead to it
abbrev pub leads_through : (n : ℕ) → (edges others : ℕ → ℕ → Bool) → (from to : ℕ) → Bool
leads_through n edges others a b = list_any (edges a) (before n others b)

-- Edges over n signals: the first ones, and others, each for a path of one or more of these. Of two
-- that meet at a signal below `middles` the path has an edge too.
pub record ClosesUpTo (n : ℕ) (first now : ℕ → ℕ → Bool) (middles : ℕ) : Type 0 where
  pub keeps : (a b : ℕ) → IsTrue (first a b) → IsTrue (now a b)
  pub leads : (a b : ℕ) → b < n → IsTrue (now a b) → IsTrue (leads_through n first first a b)
  pub joins : (a m b : ℕ) → m < middles → IsTrue (now a m) → IsTrue (now m b) → IsTrue (now a b)
