use Rattle.std.proofs.Common.{◌≡◌, ◌≤◌, length, take, min}
use Rattle.sv_solve.proofs.lists.LiteralList.truncate.Given as goal

abbrev pub invariant-shrink : goal.invariant-shrink
invariant-shrink l =
    (l.self.literals ≡ take (length l.self.literals) l.initial.self.literals)
    × (min l.len (length l.initial.self.literals) ≤ length l.self.literals)
    × (l.self.variables ≡ l.initial.self.variables)

abbrev pub decreases-shrink : goal.decreases-shrink
decreases-shrink l = length l.self.literals
