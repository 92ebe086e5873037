use Rattle.std.proofs.Common.{ap, ◌∙◌}
use Rattle.sv_trace.specs.Reading.{Reading}
use Rattle.sv_trace.proofs.ReaderFacts.{start_fits}
use Rattle.sv_trace.proofs.reader.StimReader.into_start.Goals as goal

pub returns-clause-fits : goal.returns-clause-fits
returns-clause-fits c design is =
    start_fits c.self.inside.form c.self.inside.state.start.items design
    c.self.invariant.said.start (ap (λ (r : Reading). r.form) c.self.view_is ∙ is)
