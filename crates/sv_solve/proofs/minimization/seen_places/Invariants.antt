use Rattle.std.proofs.Common.{◌≤◌, ◌≢◌, ◌-◌, length, take}
use Rattle.std.specs.Prelude.{AllPairs}
use Rattle.sv_solve.specs.ConflictClauses.{ArePlaces}
use Rattle.sv_solve.proofs.minimization.seen_places.Given as goal

abbrev pub invariant-literals : goal.invariant-literals
invariant-literals l =
    (l.index ≤ length l.seen.literals)
    × ArePlaces (take l.index l.seen.literals) l.trail.literals l.places.items l.mark
    × AllPairs ◌≢◌ l.places.items

abbrev pub decreases-literals : goal.decreases-literals
decreases-literals l = length l.seen.literals - l.index
