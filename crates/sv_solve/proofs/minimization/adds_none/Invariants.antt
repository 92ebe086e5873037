use Rattle.std.proofs.Common.{◌≤◌, ◌-◌, length, take, get_or, pos}
use Rattle.std.specs.Prelude.{IsTrue}
use Rattle.sv_clause.specs.Literals.{stands}
use Rattle.sv_solve.specs.ConflictClauses.{OthersSeen}
use Rattle.sv_solve.specs.Search.{OthersFalse}
use Rattle.sv_solve.proofs.minimization.adds_none.Given as goal

abbrev pub invariant-literals : goal.invariant-literals
invariant-literals l =
    (l.index ≤ length l.clause)
    × (IsTrue l.is_member → IsTrue (stands (get_or l.trail.literals l.place (pos 0)) l.clause))
    × OthersFalse (take l.place l.trail.literals) (take l.index l.clause)
    (get_or l.trail.literals l.place (pos 0))
    × OthersSeen l.seen.literals (take l.index l.clause) (get_or l.trail.literals l.place (pos 0))

abbrev pub decreases-literals : goal.decreases-literals
decreases-literals l = length l.clause - l.index
