use Rattle.sv_trace.proofs.ReaderFacts.{start_listed}
use Rattle.sv_trace.proofs.reader.StimReader.start.Goals as goal

pub returns-then-not-self-clause-fits : goal.returns-then-not-self-clause-fits
returns-then-not-self-clause-fits c =
    start_listed _ c.args.self.now c.self.view_is c.self.invariant.said.start

pub returns-clause-fits : goal.returns-clause-fits
returns-clause-fits c =
    start_listed _ c.args.self.now c.self.view_is c.self.invariant.said.start
