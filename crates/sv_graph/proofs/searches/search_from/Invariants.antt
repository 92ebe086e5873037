use Rattle.std.proofs.Common.{ℕ, ◌≤◌, ◌-◌, Bool, length, take}
use Rattle.sv_graph.specs.Graphs.{size}
use Rattle.sv_graph.specs.Numbers.{numbers}
use Rattle.sv_graph.specs.Searches.{found_by, Brings}
use Rattle.sv_graph.proofs.SearchFacts.{Begins}
use Rattle.sv_graph.proofs.searches.search_from.Given as goal

abbrev pub invariant-loop-start : goal.invariant-loop-start
invariant-loop-start l = (brings : ℕ → ℕ → Bool)
    → Begins l.graph brings (numbers l.starts) (numbers (take l.start-index l.starts)) 0 l.search

abbrev pub invariant-loop-place : goal.invariant-loop-place
invariant-loop-place l = (l.place ≤ length (found_by l.search))
    × ((brings : ℕ → ℕ → Bool) → Brings l.graph l.least brings
    → Begins l.graph brings (numbers l.fn.starts) (numbers l.fn.starts) l.place l.search)

abbrev pub decreases-loop-place : goal.decreases-loop-place
decreases-loop-place l = size l.graph - l.place
