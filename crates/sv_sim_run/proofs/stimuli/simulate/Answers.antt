use Rattle.std.proofs.Common.{refl, sym, ◌++◌}
use Rattle.std.specs.Option.{option_copied}
use Rattle.std.proofs.lemmas.Result.{on_ok_weaker}
use Rattle.sv_flat.specs.Views.{design_of}
use Rattle.sv_sim_run.proofs.WholeRuns.{run_answer, run_told, run_only, run_front}
use Rattle.sv_sim_run.proofs.WholeRuns.{run_told_front, run_prompt, run_most, run_touched}
use Rattle.sv_sim_run.proofs.WholeRuns.{refused_answer, refused_told, refused_alone}
use Rattle.sv_sim_run.proofs.WholeRuns.{refused_stops, refused_left, none_taken, open_at}
use Rattle.sv_sim_run.proofs.WholeRuns.{open_front_at}
use Rattle.sv_sim_run.proofs.stimuli.simulate.Goals as goal

pub returns-in-Some : goal.returns-in-Some
returns-in-Some g c =
    let design = design_of c.args.design.now in
    let level = option_copied c.args.level in
    let shown = c.in-Some.shown in
    let order = c.args.order in
    let tells = g.S.Source.tells in
    let ended = g.S.Source.ended c.simulate_at.new.input in
    let given = g.S.Source.given c.args.input.now in
    let taken = g.S.Source.given c.simulate_at.new.input in
    let left = g.S.Source.left c.args.input.now in
    let old = g.K.Sink.accepted c.args.out.now in
    let new = g.K.Sink.accepted c.simulate_at.new.out in
    let r = c.simulate_at.result in
    let told = c.simulate_at.ensures in
    let admitted = told.admitted in
    let asked = sym c.in-Some.ensures.asked in
    let runs = told.runs in
    record {
      answer = run_answer design level shown order tells given taken left old new r admitted asked
          runs;
      told = run_told design level shown order tells given taken left old new r admitted asked runs;
      to_the_end = open_at design level shown order ended given taken old new r asked
          told.to_the_end;
      only = run_only design level shown order tells given taken left old new r admitted asked runs;
      front = run_front design level shown order tells given taken left old new r admitted asked
          runs;
      told_front = run_told_front design level shown order tells given taken left old new r
          admitted asked runs;
      front_to_the_end = open_front_at design level shown order ended given taken old new r asked
          told.front_to_the_end;
      prompt = run_prompt design level shown order tells given taken left old new r admitted asked
          runs;
      most = run_most design level shown order tells given taken left old new r admitted asked runs;
      untouched = run_touched design level shown order tells given taken left old new r admitted
          asked runs;
      read_fault = told.read_fault;
      write_fault = told.write_fault;
      unfailed = told.unfailed;
      unended = told.unended;
      no_write_fault = told.no_write_fault;
    }

pub returns-in-None : goal.returns-in-None
returns-in-None g c =
    let design = design_of c.args.design.now in
    let level = option_copied c.args.level in
    let order = c.args.order in
    let given = g.S.Source.given c.args.input.now in
    let left = g.S.Source.left c.args.input.now in
    let old = g.K.Sink.accepted c.args.out.now in
    let new = g.K.Sink.accepted c.refuse_level.new.out in
    let r = c.refuse_level.result in
    let told = c.refuse_level.ensures in
    let asked = sym c.in-None.ensures.asked in
    record {
      answer = refused_answer design level order given old new r asked told.whole;
      told = λ tells. refused_told design level order given old new r asked told.whole left;
      to_the_end = λ goes_on taken more is.
          refused_told design level order given old new r asked told.whole (taken ++ more);
      only = λ taken printed other is simulated.
          refused_alone design level order given old new r asked told.whole taken printed other
          simulated;
      front = refused_stops design level order given old new r asked told.front;
      told_front = λ tells. refused_left design level order left old new r asked told.front;
      front_to_the_end = λ goes_on taken more is.
          refused_left design level order (taken ++ more) old new r asked told.front;
      prompt = λ read. absurd (told.read read);
      most = λ taken is. none_taken given taken is;
      untouched = λ unknown. refl;
      read_fault = λ read. absurd (told.read read);
      write_fault = told.failed;
      unfailed = on_ok_weaker r (λ put. (refl, put)) told.kept;
      unended = λ read. absurd (told.read read);
      no_write_fault = λ read. absurd (told.read read);
    }
