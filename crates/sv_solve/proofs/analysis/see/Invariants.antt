use Rattle.std.proofs.Common.{◌≡◌, ◌&&◌, ◌||◌, ℤ, neg_ℤ, ◌≤◌, ◌-◌, length, take}
use Rattle.sv_clause.specs.Literals.{stands}
use Rattle.sv_solve.proofs.analysis.see.Given as goal

abbrev pub invariant-literals : goal.invariant-literals
invariant-literals l =
    (l.place ≤ length l.clause) × (l.seen.variables ≡ l.initial.seen.variables)
    × ((x : ℤ) → stands x l.seen.literals ≡
    (stands x l.initial.seen.literals
    || (stands x (take l.place l.clause) && stands (neg_ℤ x) l.trail.literals)))

abbrev pub decreases-literals : goal.decreases-literals
decreases-literals l = length l.clause - l.place
