use Rattle.std.proofs.Common.{◌≡◌, ◌≤◌, ◌-◌, length}
use Rattle.sv_solve.specs.Search.{ImpliedFrom}
use Rattle.sv_solve.proofs.Assumed.{UnitsBelow}
use Rattle.sv_solve.proofs.state.assume_units.Given as goal

abbrev pub invariant-clauses : goal.invariant-clauses
invariant-clauses l =
    (l.place ≤ length l.clauses) × (l.trail.variables ≡ l.fn.trail.variables)
    × ImpliedFrom l.clauses l.trail 0 × UnitsBelow l.clauses l.trail.literals l.place

abbrev pub decreases-clauses : goal.decreases-clauses
decreases-clauses l = length l.clauses - l.place
