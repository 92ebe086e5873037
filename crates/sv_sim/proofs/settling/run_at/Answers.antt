use Rattle.sv_sim.proofs.AtPlace.{statement_there}
use Rattle.sv_sim.proofs.settling.run_at.Goals as goal

pub run_body-requires-clause-sound : goal.run_body-requires-clause-sound
run_body-requires-clause-sound c =
    statement_there c.args.design.now c.processes-processes.ensures.design c.signals.result.now
    c.processes-processes.result.now c.index-processes-place.result c.args.place c.requires.place
    c.signals.ensures.signals c.processes-processes.ensures.processes c.index-processes-place.is
