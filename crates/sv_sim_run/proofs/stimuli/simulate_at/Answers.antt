use Rattle.std.proofs.lemmas.Result.{IfOk-from_err}
use Rattle.sv_sim_run.proofs.WholeRuns.{none_run, not_read, not_written, run_so, open_so}
use Rattle.sv_sim_run.proofs.WholeRuns.{open_none, open_front_so}
use Rattle.sv_sim_run.proofs.WholeTexts.{Simulates}
use Rattle.sv_sim_run.proofs.stimuli.simulate_at.Goals as goal

pub returns-in_err-simulation : goal.returns-in_err-simulation
returns-in_err-simulation g c =
    let r = c.from_residual.result in
    let full = c.from_residual.ensures.1 in
    record {
      admitted = c.new.ensures.admitted;
      runs = none_run _ c.args.shown c.args.order g.S.Source.tells
          (g.S.Source.given c.args.input.now) (g.S.Source.left c.args.input.now)
          (g.K.Sink.accepted c.args.out.now) r c.new.ensures.admitted full;
      to_the_end = λ goes_on taken more given. IfOk-from_err r _ c.from_residual.ensures.0;
      front_to_the_end = open_none _ c.args.shown c.args.order (g.S.Source.ended c.args.input.now)
          (g.S.Source.given c.args.input.now) (g.S.Source.given c.args.input.now)
          (g.K.Sink.accepted c.args.out.now) r c.new.ensures.admitted;
      read_fault = λ read. absurd (not_read r full read);
      write_fault = λ written. absurd (not_written r full written);
      unfailed = IfOk-from_err r _ c.from_residual.ensures.0;
      unended = λ read. absurd (not_read r full read);
      no_write_fault = λ read. absurd (not_read r full read);
    }

pub run_to_end-requires-clause-made : goal.run_to_end-requires-clause-made
run_to_end-requires-clause-made g c = c.in_ok-simulation.ensures.made

pub run_to_end-requires-clause-open : goal.run_to_end-requires-clause-open
run_to_end-requires-clause-open g c = c.in_ok-simulation.ensures.open

pub run_to_end-requires-clause-come : goal.run_to_end-requires-clause-come
run_to_end-requires-clause-come g c =
    c.in_ok-simulation.ensures.come (g.K.Sink.accepted c.args.out.now)

pub returns : goal.returns
returns g c =
    let is : Simulates c.args.design.now c.args.shown c.args.order c.in_ok-simulation.simulation =
    record {
      is_design = c.in_ok-simulation.ensures.design;
      is_level = c.in_ok-simulation.ensures.level;
      is_order = c.in_ok-simulation.ensures.order;
    } in
    let ran = c.run_to_end.ensures in
    record {
      admitted = c.new.ensures.admitted;
      runs = run_so c.args.design.now c.args.shown c.args.order c.in_ok-simulation.simulation
          g.S.Source.tells (g.S.Source.given c.args.input.now)
          (g.S.Source.given c.run_to_end.new.input) (g.S.Source.left c.args.input.now)
          (g.K.Sink.accepted c.args.out.now) (g.K.Sink.accepted c.run_to_end.new.out)
          c.run_to_end.result is ran.runs;
      to_the_end = open_so c.args.design.now c.args.shown c.args.order
          c.in_ok-simulation.simulation (g.S.Source.ended c.run_to_end.new.input)
          (g.S.Source.given c.args.input.now) (g.S.Source.given c.run_to_end.new.input)
          (g.K.Sink.accepted c.args.out.now) (g.K.Sink.accepted c.run_to_end.new.out)
          c.run_to_end.result is ran.to_the_end;
      front_to_the_end = open_front_so c.args.design.now c.args.shown c.args.order
          c.in_ok-simulation.simulation (g.S.Source.ended c.run_to_end.new.input)
          (g.S.Source.given c.args.input.now) (g.S.Source.given c.run_to_end.new.input)
          (g.K.Sink.accepted c.args.out.now) (g.K.Sink.accepted c.run_to_end.new.out)
          c.run_to_end.result is ran.front_to_the_end;
      read_fault = ran.read_fault;
      write_fault = ran.write_fault;
      unfailed = ran.unfailed;
      unended = ran.unended;
      no_write_fault = ran.no_write_fault;
    }
