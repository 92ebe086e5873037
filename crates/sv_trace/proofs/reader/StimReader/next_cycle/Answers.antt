use Rattle.std.proofs.Common.{ap}
use Rattle.sv_trace.specs.Reading.{Reading, FitWidths}
use Rattle.sv_trace.proofs.ReaderFacts.{popped, popped_fits}
use Rattle.sv_trace.proofs.reader.StimReader.next_cycle.Goals as goal

pub invariant_of-self : goal.invariant_of-self
invariant_of-self c =
    let was = c.self.invariant in
    record {
      said = record {
        given = was.said.given;
        start = was.said.start;
        cycles = popped (λ v. v.items) (FitWidths c.self.inside.form.inputs) c.pop_front.result
            c.self.inside.state.cycles.items c.pop_front.new.self.items c.pop_front.ensures.items
            was.said.cycles;
      };
      room = was.room;
      short = was.short;
    }

pub returns-clause-fits : goal.returns-clause-fits
returns-clause-fits c =
    popped_fits (λ v. v.items) c.pop_front.result c.self.inside.state.cycles.items
    c.pop_front.new.self.items c.self.inside.form c.args.self.now.form
    (ap (λ (r : Reading). r.form) c.self.view_is) c.pop_front.ensures.items
    c.self.invariant.said.cycles
