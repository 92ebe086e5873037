use Rattle.sv_solve.proofs.Clauses.{of_member}
use Rattle.sv_solve.proofs.watches.demand_of.Goals as goal

pub contains-requires : goal.contains-requires
contains-requires c =
    of_member c.args.trail.now.variables c.args.clause.now c.args.kept.now c.requires.of
    c.requires.member
