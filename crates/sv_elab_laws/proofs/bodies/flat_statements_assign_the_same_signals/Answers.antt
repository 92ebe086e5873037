use Rattle.sv_elab_laws.proofs.AssignedNames.{assigned_same, assigned_are_signals}
use Rattle.sv_elab_laws.proofs.bodies.flat_statements_assign_the_same_signals.Goals as goal

pub returns-clause-same : goal.returns-clause-same
returns-clause-same c names s f walked shape k = assigned_same names s f walked shape k

pub returns-clause-signals : goal.returns-clause-signals
returns-clause-signals c names s f walked n at = assigned_are_signals names s f walked n at
