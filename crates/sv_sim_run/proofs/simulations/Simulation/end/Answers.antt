use Rattle.std.proofs.Common.{◌≡◌, true, subst, sym, ap, ◌∙◌, refl, inl, inr}
use Rattle.sv_trace.specs.Reading.{answer_of}
use Rattle.sv_trace.specs.Stimulus.{read_front, read_whole}
use Rattle.sv_sim_run.specs.declared.simulations.Simulation.{Simulation}
use Rattle.sv_sim_run.specs.Progress.{HasEnded}
use Rattle.sv_sim_run.specs.Runs.{ending_from}
use Rattle.sv_sim_run.specs.Simulated.{ending_of}
use Rattle.sv_sim_run.proofs.CallFacts.{on_error, same_reader, refused_by}
use Rattle.sv_sim_run.proofs.EndFacts.{whole_keeps}
use Rattle.sv_sim_run.proofs.LineFacts.{front_now}
use Rattle.sv_sim_run.proofs.ProgressFacts.{failed_now, same_then, made_reader, read_more}
use Rattle.sv_sim_run.proofs.StepFacts.{whole_reads, room_of, whole_room, ended_is}
use Rattle.sv_sim_run.proofs.simulations.Simulation.end.Goals as goal

pub returns-in_err-found-clause-same : goal.returns-in_err-found-clause-same
returns-in_err-found-clause-same g c =
    same_reader c.args.self.now _ refl c.finish.ensures.form

pub returns-in_err-found-clause-front : goal.returns-in_err-found-clause-front
returns-in_err-found-clause-front g c =
    on_error c.from_residual.result (λ bytes before come.
    let s = c.args.self.now in
    let accepted = g.K.Sink.accepted c.args.out.now in
    inl (failed_now s (read_front s.reader.form bytes) come.taken before accepted accepted
    come.fed.read come.ran (front_now _ _ _ _ come.ran.lines)))

pub write_cycles-requires : goal.write_cycles-requires
write_cycles-requires g c =
    let s = c.args.self.now in
    let w = c.requires.within in
    let reads = whole_reads c.finish.result s.reader c.finish.new.self c.in_ok-found.found
    (sym c.in_ok-found.ensures) c.finish.ensures.read in
    let has = reads w.bytes w.come.taken w.come.fed in
    record {
      made = made_reader s _ c.requires.made refl c.finish.ensures.form
          (λ begun. (whole_keeps w.bytes w.come.taken w.come.taken s.reader c.finish.new.self
          c.finish.ensures.form w.come.fed.read has begun).1);
      room = room_of s _ (read_whole c.finish.new.self.form w.bytes) w.come.taken w.before
          (g.K.Sink.accepted c.args.out.now) w.come.ran has
          (whole_room c.finish.new.self w.bytes w.within) refl;
    }

pub returns-in_err-write_cycles-clause-same : goal.returns-in_err-write_cycles-clause-same
returns-in_err-write_cycles-clause-same g c =
    let s = c.args.self.now in
    let m : Simulation = record s { reader = c.finish.new.self } in
    same_then s m c.write_cycles.new.self (same_reader s m refl c.finish.ensures.form)
    c.write_cycles.ensures.same

pub returns-in_err-write_cycles-clause-front : goal.returns-in_err-write_cycles-clause-front
returns-in_err-write_cycles-clause-front g c =
    on_error c.from_residual-in_err-write_cycles.result (λ bytes before come.
    let s = c.args.self.now in
    let m : Simulation = record s { reader = c.finish.new.self } in
    let reads = whole_reads c.finish.result s.reader c.finish.new.self c.in_ok-found.found
    (sym c.in_ok-found.ensures) c.finish.ensures.read in
    let has = reads bytes come.taken come.fed in
    let ran = read_more s m come.taken before (g.K.Sink.accepted c.args.out.now) refl
    (λ started. (whole_keeps bytes come.taken come.taken s.reader c.finish.new.self
    c.finish.ensures.form come.fed.read has (c.requires.made.begun started)).0) come.ran in
    inr (refused_by s m (λ form. read_whole form bytes) before
    (g.K.Sink.accepted c.write_cycles.new.out) refl c.finish.ensures.form
    (c.in_err-write_cycles.ensures.front (read_whole c.finish.new.self.form bytes) before come.taken
    has ran)))

pub returns-clause-same : goal.returns-clause-same
returns-clause-same g c =
    let s = c.args.self.now in
    let m : Simulation = record s { reader = c.finish.new.self } in
    same_then s m c.write_cycles.new.self (same_reader s m refl c.finish.ensures.form)
    c.write_cycles.ensures.same

pub returns-clause-ended : goal.returns-clause-ended
returns-clause-ended g c = λ bytes before come.
    let s = c.args.self.now in
    let m : Simulation = record s { reader = c.finish.new.self } in
    let new = c.write_cycles.new.self in
    let reads = whole_reads c.finish.result s.reader c.finish.new.self c.in_ok-found.found
    (sym c.in_ok-found.ensures) c.finish.ensures.read in
    let has = reads bytes come.taken come.fed in
    let read = read_whole c.finish.new.self.form bytes in
    let ran = read_more s m come.taken before (g.K.Sink.accepted c.args.out.now) refl
    (λ started. (whole_keeps bytes come.taken come.taken s.reader c.finish.new.self
    c.finish.ensures.form come.fed.read has (c.requires.made.begun started)).0) come.ran in
    let ended = c.in_ok-write_cycles.ensures.read_all read before come.taken has ran in
    let found = ap (λ o. ending_from (answer_of o)) (sym has.fault)
    ∙ ap ending_from (sym c.finish.ensures.answer) ∙ sym c.in_ok-found.ensures in
    let is : c.unwrap_or.result ≡ ending_of true read =
    c.unwrap_or.ensures ∙ ended_is read c.in_ok-found.found found in
    let form = sym c.write_cycles.ensures.same.form in
    subst (λ f. HasEnded (read_whole f bytes) before (g.K.Sink.accepted c.write_cycles.new.out) new
    × (c.unwrap_or.result ≡ ending_of true (read_whole f bytes))) form (ended, is)
