use Rattle.std.proofs.Common.{◌≡◌, ◌≤◌, length, []}
use Rattle.sv_solve.specs.Search.{Derives, HasLater}
use Rattle.sv_solve.proofs.analysis.resolve_to_first_uip.Given as goal

abbrev pub invariant-back : goal.invariant-back
invariant-back l =
    (l.bound ≤ length l.trail.literals) × (l.seen.variables ≡ l.trail.variables)
    × Derives l.clauses l.chain.items [] l.seen.literals l.trail.literals l.bound
    × HasLater l.seen.literals l.trail.literals l.mark l.bound

abbrev pub decreases-back : goal.decreases-back
decreases-back l = l.bound
