use Rattle.std.proofs.Common.{ap, subst, ◌∙◌}
use Rattle.sv_trace.specs.Reading.{FitWidths}
use Rattle.sv_trace.proofs.SaidFacts.{all_pushed}
use Rattle.sv_trace.proofs.state.push_cycle.Goals as goal

pub returns-clause-said : goal.returns-clause-said
returns-clause-said c =
    let fits = rw c.in-Some.is at c.in_ok-values.ensures.fits in
    record {
      given = c.requires.said.given;
      start = c.requires.said.start;
      cycles = all_pushed (λ v. v.items) (FitWidths c.args.form.now.inputs)
          c.args.state.now.cycles.items c.push_back.new.self.items c.in-Some.values
          c.requires.said.cycles
          (subst (λ ws. FitWidths ws c.in-Some.values.items)
          (c.as_slice.ensures.value ∙ ap (λ f. f.inputs) c.form.view_is) fits)
          c.in_ok-push_back.ensures.items;
    }
