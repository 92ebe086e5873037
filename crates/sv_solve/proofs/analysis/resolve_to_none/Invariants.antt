use Rattle.std.proofs.Common.{◌≡◌, ◌≤◌, length, []}
use Rattle.sv_solve.specs.Search.{Derives}
use Rattle.sv_solve.proofs.analysis.resolve_to_none.Given as goal

abbrev pub invariant-back : goal.invariant-back
invariant-back l =
    (l.bound ≤ length l.trail.literals) × (l.seen.variables ≡ l.trail.variables)
    × Derives l.clauses l.chain.items [] l.seen.literals l.trail.literals l.bound

abbrev pub decreases-back : goal.decreases-back
decreases-back l = l.bound
