use Rattle.std.proofs.Common.{◌≡◌, ℕ, ◌<◌, Bool, List, length, drop, get_or}
use Rattle.std.specs.Prelude.{Contains}
use Rattle.sv_graph.specs.Graphs.{size}
use Rattle.sv_graph.specs.Searches.{found_by, SearchesBy, Brings}
use Rattle.sv_graph.proofs.SearchFacts.{Expands}
use Rattle.sv_graph.proofs.searches.Search.expand.Given as goal

-- what the signal at the place leads to is found, or is left
abbrev pub invariant-loop-next : goal.invariant-loop-next
invariant-loop-next l = (length l.self.places.items ≡ size l.graph)
    × ((brings : ℕ → ℕ → Bool) (starts : List ℕ) → Brings l.graph l.least brings
    → ((k : ℕ) → Contains starts k → k < size l.graph)
    → SearchesBy (size l.graph) brings starts l.place l.initial.self
    → Expands l.graph l.least l.place l.row (get_or (found_by l.initial.self) l.place 0)
    l.initial.self l.self l.self 0 (record { 0 = 0 })
    l.self (drop l.next-index l.row) brings starts)
