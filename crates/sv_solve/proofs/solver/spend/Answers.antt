use Rattle.std.proofs.Common.{◌∙◌}
use Rattle.sv_solve.proofs.Endings.{none_below}
use Rattle.sv_solve.proofs.solver.spend.Goals as goal

pub refute-requires-clause-decided : goal.refute-requires-clause-decided
refute-requires-clause-decided c =
    c.in_ok-state.ensures.decisions
    ∙ none_below c.backjump.result.decisions c.backjump.ensures.decisions
