use Rattle.std.proofs.Common.{◌≡◌, take}
use Rattle.sv_solve.specs.Watching.{IsListed, IsFitting}
use Rattle.sv_solve.proofs.state.watch_all.Given as goal

abbrev pub invariant-clauses : goal.invariant-clauses
invariant-clauses l =
    IsFitting (take l.clause-index l.clauses) l.watches.pairs × IsListed l.watches
    × (l.watches.variables ≡ l.variables)
