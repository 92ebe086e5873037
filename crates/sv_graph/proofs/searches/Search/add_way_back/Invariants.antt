use Rattle.std.proofs.Common.{◌≡◌, ◌≤◌, ◌++◌, List, ℕ}
use Rattle.sv_graph.specs.Numbers.{numbers}
use Rattle.sv_graph.specs.Searches.{IsWayBack}
use Rattle.sv_graph.proofs.searches.Search.add_way_back.Given as goal

-- what is added so far, and the way back from here, are the way back from the place
abbrev pub invariant-loop-at : goal.invariant-loop-at
invariant-loop-at l = (l.at ≤ l.fn.place)
    × ((done : List ℕ) × (numbers l.way.items ≡ numbers l.initial.way.items ++ done)
    × ((rest : List ℕ) → IsWayBack l.self l.at rest → IsWayBack l.self l.fn.place (done ++ rest)))

abbrev pub decreases-loop-at : goal.decreases-loop-at
decreases-loop-at l = l.at
