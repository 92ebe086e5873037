use Rattle.std.proofs.Common.{◌-◌, length}
use Rattle.sv_solve.specs.Watching.{watching_list}
use Rattle.sv_solve.proofs.Visits.{IsVisiting}
use Rattle.sv_solve.proofs.watches.Watches.visit.Given as goal

abbrev pub invariant-visited : goal.invariant-visited
invariant-visited l = IsVisiting l.clauses l.falsified l.fn.self l.fn.trail l.self l.trail l.index

abbrev pub decreases-visited : goal.decreases-visited
decreases-visited l = length (watching_list l.self l.falsified) - l.index
