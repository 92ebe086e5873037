use Rattle.sv_obl.proofs.IndexedFacts.{next_indexed}
use Rattle.sv_obl.proofs.indexed.indexed_bodies.Goals as goal

pub loop-process-preserved : goal.loop-process-preserved
loop-process-preserved c =
    next_indexed c.args.processes.now c.loop-process.process-index c.process-item.result
    c.loop-process.bodies.items c.push.new.self.items c.in_ok-indexed.indexed
    c.loop-process-test.true c.process-item.is c.loop-process.invariant c.in_ok-indexed.ensures
    c.in_ok-push.ensures.items
