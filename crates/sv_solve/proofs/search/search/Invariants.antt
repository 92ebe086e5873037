use Rattle.std.proofs.Common.{◌≡◌, ◌+◌, ◌*◌, ◌-◌, length}
use Rattle.sv_solve.proofs.search.search.Given as goal

abbrev pub invariant-decisions : goal.invariant-decisions
invariant-decisions l =
    (l.state.known ≡ l.initial.state.known) × (l.seen.variables ≡ l.state.known.variables)

abbrev pub decreases-decisions : goal.decreases-decisions
decreases-decisions l = 2 * l.state.known.variables + 3 - length l.state.trail.literals
