use Rattle.std.proofs.Common.{◌∙◌}
use Rattle.std.proofs.lemmas.Result.{IfOk-from_err}
use Rattle.sv_sim_run.proofs.CallFacts.{on_error}
use Rattle.sv_sim_run.proofs.WholeRuns.{stops_run, front_run, whole_run, open_run, open_front}
use Rattle.sv_sim_run.proofs.stimuli.run_to_end.Goals as goal

pub returns-in_err-ending-clause-runs : goal.returns-in_err-ending-clause-runs
returns-in_err-ending-clause-runs g c =
    stops_run g.S.Source.tells (g.S.Source.given c.args.input.now)
    (g.S.Source.given c.read_all.new.input) (g.S.Source.left c.args.input.now)
    (g.S.Source.left c.read_all.new.input) (g.K.Sink.accepted c.args.out.now)
    c.args.simulation.now (g.K.Sink.accepted c.read_all.new.out) c.from_residual.result _
    c.from_residual.ensures.1 c.in_err-ending.ensures.stops c.in_err-ending.ensures.prompt

pub returns-in_err-put_last_line-clause-runs : goal.returns-in_err-put_last_line-clause-runs
returns-in_err-put_last_line-clause-runs g c =
    front_run g.S.Source.tells (g.S.Source.given c.args.input.now)
    (g.S.Source.given c.read_all.new.input) (g.S.Source.left c.args.input.now)
    (g.S.Source.left c.read_all.new.input) (g.K.Sink.accepted c.args.out.now)
    c.args.simulation.now c.read_all.new.simulation (g.K.Sink.accepted c.read_all.new.out)
    (g.K.Sink.accepted c.put_last_line.new.out) c.rounds.result c.in_ok-ending.ending
    c.from_residual-in_err-put_last_line.result _ c.from_residual-in_err-put_last_line.ensures.1
    c.read_all.ensures.same c.in_ok-ending.ensures.ends c.rounds.ensures
    c.in_err-put_last_line.ensures.refused c.in_err-put_last_line.ensures.read

pub returns-clause-runs : goal.returns-clause-runs
returns-clause-runs g c =
    whole_run g.S.Source.tells (g.S.Source.given c.args.input.now)
    (g.S.Source.given c.read_all.new.input) (g.S.Source.left c.args.input.now)
    (g.S.Source.left c.read_all.new.input) (g.K.Sink.accepted c.args.out.now)
    c.args.simulation.now c.read_all.new.simulation (g.K.Sink.accepted c.read_all.new.out)
    (g.K.Sink.accepted c.put_last_line.new.out) c.rounds.result c.in_ok-ending.ending
    c.read_all.ensures.same c.in_ok-ending.ensures.ends c.rounds.ensures
    c.in_ok-put_last_line.ensures.whole

-- ---- whatever follows

pub returns-in_err-ending-clause-to_the_end : goal.returns-in_err-ending-clause-to_the_end
returns-in_err-ending-clause-to_the_end g c goes_on taken more given =
    IfOk-from_err c.from_residual.result _ c.from_residual.ensures.0

pub returns-in_err-put_last_line-clause-to_the_end :
    goal.returns-in_err-put_last_line-clause-to_the_end
returns-in_err-put_last_line-clause-to_the_end g c goes_on taken more given =
    IfOk-from_err c.from_residual-in_err-put_last_line.result _
    c.from_residual-in_err-put_last_line.ensures.0

pub returns-clause-to_the_end : goal.returns-clause-to_the_end
returns-clause-to_the_end g c =
    open_run c.args.simulation.now c.read_all.new.simulation (g.K.Sink.accepted c.args.out.now)
    (g.K.Sink.accepted c.read_all.new.out) (g.K.Sink.accepted c.put_last_line.new.out)
    c.rounds.result c.in_ok-ending.ending (g.S.Source.ended c.read_all.new.input)
    (g.S.Source.given c.args.input.now) (g.S.Source.given c.read_all.new.input)
    c.read_all.ensures.same c.rounds.ensures c.in_ok-put_last_line.ensures.whole
    c.in_ok-ending.ensures.to_the_end

pub returns-in_err-ending-clause-front_to_the_end :
    goal.returns-in_err-ending-clause-front_to_the_end
returns-in_err-ending-clause-front_to_the_end g c goes_on taken more given =
    on_error c.from_residual.result
    (c.in_err-ending.ensures.front_to_the_end goes_on taken more given)

pub returns-in_err-put_last_line-clause-front_to_the_end :
    goal.returns-in_err-put_last_line-clause-front_to_the_end
returns-in_err-put_last_line-clause-front_to_the_end g c =
    open_front c.args.simulation.now c.read_all.new.simulation (g.K.Sink.accepted c.args.out.now)
    (g.K.Sink.accepted c.read_all.new.out) (g.K.Sink.accepted c.put_last_line.new.out)
    c.rounds.result c.in_ok-ending.ending (g.S.Source.ended c.read_all.new.input)
    (g.S.Source.given c.args.input.now) (g.S.Source.given c.read_all.new.input)
    c.from_residual-in_err-put_last_line.result c.read_all.ensures.same c.rounds.ensures
    c.in_err-put_last_line.ensures.refused c.in_ok-ending.ensures.to_the_end

pub returns-clause-front_to_the_end : goal.returns-clause-front_to_the_end
returns-clause-front_to_the_end g c goes_on taken more given = tt

-- ---- faults

pub returns-in_err-ending-clause-unfailed : goal.returns-in_err-ending-clause-unfailed
returns-in_err-ending-clause-unfailed g c =
    IfOk-from_err c.from_residual.result _ c.from_residual.ensures.0

pub returns-in_err-put_last_line-clause-unfailed :
    goal.returns-in_err-put_last_line-clause-unfailed
returns-in_err-put_last_line-clause-unfailed g c =
    IfOk-from_err c.from_residual-in_err-put_last_line.result _
    c.from_residual-in_err-put_last_line.ensures.0

pub returns-clause-unfailed : goal.returns-clause-unfailed
returns-clause-unfailed g c = (
  c.in_ok-ending.ensures.unfailed.0,
  c.in_ok-put_last_line.ensures.kept ∙ c.in_ok-ending.ensures.unfailed.1,
)
