use Rattle.sv_rules.proofs.Sound.{process_at}
use Rattle.sv_design.proofs.processes.kept_processes.Goals as goal

pub push_kept-requires-clause-sound : goal.push_kept-requires-clause-sound
push_kept-requires-clause-sound c =
    process_at c.args.flat.now c.deref-process-items.result.now c.loop-process.process-index
    c.process-item.result
    c.deref-process-items.ensures.value c.loop-process-test.true c.process-item.is c.requires.sound
