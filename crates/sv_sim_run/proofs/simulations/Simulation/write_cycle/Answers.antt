use Rattle.std.proofs.Common.{◌≡◌, ◌*◌, ◌≤◌, map, subst, sym, ◌∙◌, refl}
use Rattle.std.specs.Prelude.{IfSome}
use Rattle.std.proofs.lemmas.Result.{on_ok_weaker, on_err_weaker}
use Rattle.sv_flat.specs.declared.designs.Flat.{Flat}
use Rattle.sv_flat.specs.FlatSystem.{flat_system}
use Rattle.sv_flat.specs.SignalLists.{system_signals, inputs}
use Rattle.sv_flat.specs.Views.{design_of}
use Rattle.sv_flat.specs.Given.{FitListed, given}
use Rattle.sv_sim.proofs.Simulated.{written}
use Rattle.sv_system.specs.System.{Settled}
use Rattle.sv_trace.specs.Traces.{trace_line}
use Rattle.sv_sim_run.specs.Progress.{flat_of}
use Rattle.sv_sim_run.specs.Runners.{rounds_in, values_in}
use Rattle.sv_sim_run.proofs.CallFacts.{on_error, runs_of, leaves_of, leaves_few, made_runner}
use Rattle.sv_sim_run.proofs.LineFacts.{seen_fit}
use Rattle.sv_sim_run.proofs.ProgressFacts.{cycle_more, cycle_refused, cycle_full}
use Rattle.sv_sim_run.proofs.simulations.Simulation.write_cycle.Goals as goal

pub settle-requires-clause-fit : goal.settle-requires-clause-fit
settle-requires-clause-fit g c =
    subst (λ (d : Flat). FitListed (design_of d).signals (inputs (design_of d)) c.args.inputs.now)
    (sym c.requires.made.runner) c.requires.fit

pub take_values-requires-clause-room : goal.take_values-requires-clause-room
take_values-requires-clause-room g c = c.deref_mut.ensures.len ∙ c.requires.made.room

pub trace_line-requires-clause-fit : goal.trace_line-requires-clause-fit
trace_line-requires-clause-fit g c =
    let s = c.args.self.now in
    let flat = flat_of s in
    let r = c.settle.new.self in
    let values : c.deref.result.now ≡ map (values_in r) (system_signals flat) =
    c.deref.ensures.value
    ∙ written s.values.len c.take_values.new.values s.values.items
    (c.take_values.auto.values ∙ c.deref_mut.ensures.len)
    ∙ c.take_values.ensures in
    let settled = subst
    (λ (d : Flat). Settled (flat_system (design_of d)) (values_in s.runner)
    (given (inputs (design_of d)) c.args.inputs.now) (values_in r))
    c.requires.made.runner c.settle.ensures.settled in
    subst (λ vs. FitListed flat.signals (system_signals flat) vs) (sym values)
    (seen_fit flat (values_in r) settled.fits)

pub returns-in_err-line-clause-made : goal.returns-in_err-line-clause-made
returns-in_err-line-clause-made g c =
    made_runner c.args.self.now _ c.requires.made refl c.settle.ensures.design
    c.settle.ensures.made refl

pub returns-in_err-line-clause-front : goal.returns-in_err-line-clause-front
returns-in_err-line-clause-front g c = on_error c.from_residual.result (λ taken before ran.
    let s = c.args.self.now in
    let r = c.settle.new.self in
    let line = trace_line (flat_of s) s.cycle s.level (values_in r) in
    cycle_full s taken before (g.K.Sink.accepted c.args.out.now) ran c.args.inputs.now (values_in r)
    line
    (runs_of s c.requires.made c.args.inputs.now r line c.requires.started
    c.settle.ensures.settled refl))

pub returns-in_err-line-clause-same : goal.returns-in_err-line-clause-same
returns-in_err-line-clause-same g c =
    record { design = refl; level = refl; order = c.settle.ensures.order; form = refl }

pub returns-clause-same : goal.returns-clause-same
returns-clause-same g c = record {
  design = refl;
  level = refl;
  order = c.tick.ensures.order ∙ c.settle.ensures.order;
  form = refl;
}

pub returns-clause-made : goal.returns-clause-made
returns-clause-made g c =
    made_runner c.args.self.now _ c.requires.made refl
    (c.tick.ensures.design ∙ c.settle.ensures.design) c.tick.ensures.made refl

pub returns-clause-ran : goal.returns-clause-ran
returns-clause-ran g c = on_ok_weaker c.put_line.result (λ put. λ taken before ran.
    let s = c.args.self.now in
    let r = c.settle.new.self in
    let us = c.args.inputs.now in
    let values : map (values_in r) (system_signals (flat_of s)) ≡ c.deref.result.now =
    sym (c.deref.ensures.value
    ∙ written s.values.len c.take_values.new.values s.values.items
    (c.take_values.auto.values ∙ c.deref_mut.ensures.len)
    ∙ c.take_values.ensures) in
    let line_is = c.as_slice.ensures.value ∙ c.in_ok-line.ensures (values_in r) values in
    cycle_more s taken before (g.K.Sink.accepted c.args.out.now) ran us (values_in r)
    c.as_slice.result.now _ (g.K.Sink.accepted c.put_line.new.out)
    (runs_of s c.requires.made us r c.as_slice.result.now c.requires.started
    c.settle.ensures.settled line_is)
    (leaves_of s c.requires.made us r c.tick.new.self c.settle.ensures.design
    c.settle.ensures.order c.settle.ensures.counted c.tick.ensures.values c.tick.ensures.order
    c.tick.ensures.rounds c.tick.ensures.ticked)
    put refl c.cycle_after-self.ensures)
    c.put_line.ensures.whole

pub returns-clause-front : goal.returns-clause-front
returns-clause-front g c = on_err_weaker c.put_line.result (λ wrote. λ taken before ran.
    let s = c.args.self.now in
    let r = c.settle.new.self in
    let us = c.args.inputs.now in
    let values : map (values_in r) (system_signals (flat_of s)) ≡ c.deref.result.now =
    sym (c.deref.ensures.value
    ∙ written s.values.len c.take_values.new.values s.values.items
    (c.take_values.auto.values ∙ c.deref_mut.ensures.len)
    ∙ c.take_values.ensures) in
    let line_is = c.as_slice.ensures.value ∙ c.in_ok-line.ensures (values_in r) values in
    cycle_refused s taken before (g.K.Sink.accepted c.args.out.now) ran us (values_in r)
    c.as_slice.result.now (g.K.Sink.accepted c.put_line.new.out)
    (runs_of s c.requires.made us r c.as_slice.result.now c.requires.started
    c.settle.ensures.settled line_is)
    wrote)
    c.put_line.ensures.refused

pub returns-clause-rounds : goal.returns-clause-rounds
returns-clause-rounds g c = λ few.
    let s = c.args.self.now in
    let r = c.settle.new.self in
    on_ok_weaker c.put_line.result (λ put.
    subst (λ n. IfSome (rounds_in c.tick.new.self) (λ rounds. rounds ≤ n * 4294967295))
    (sym c.cycle_after-self.ensures)
    (leaves_few s c.requires.made c.args.inputs.now r c.tick.new.self c.settle.ensures.counted
    c.tick.ensures.rounds few))
    c.put_line.ensures.whole
