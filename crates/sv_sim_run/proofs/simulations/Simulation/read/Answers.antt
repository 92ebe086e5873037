use Rattle.std.proofs.Common.{◌++◌, [], sym, ap, ◌∙◌, refl, append-nil}
use Rattle.sv_trace.specs.Reading.{answer_of}
use Rattle.sv_trace.specs.Stimulus.{read_front}
use Rattle.sv_sim_run.specs.declared.simulations.Simulation.{Simulation}
use Rattle.sv_sim_run.specs.Runs.{ending_from}
use Rattle.sv_sim_run.proofs.CallFacts.{on_error, same_reader, refused_by}
use Rattle.sv_sim_run.proofs.LineFacts.{front_now}
use Rattle.sv_sim_run.proofs.ProgressFacts.{failed_now, same_then, made_reader, read_more}
use Rattle.sv_sim_run.proofs.StepFacts.{fed_reads, room_of, front_room}
use Rattle.sv_sim_run.proofs.simulations.Simulation.read.Goals as goal

pub feed-requires-clause-room : goal.feed-requires-clause-room
feed-requires-clause-room g c = λ none. c.requires.room

pub returns-in_err-found-clause-made : goal.returns-in_err-found-clause-made
returns-in_err-found-clause-made g c =
    made_reader c.args.self.now _ c.requires.made refl c.feed.ensures.form
    (λ begun. (c.feed.ensures.start begun).1)

pub returns-in_err-found-clause-same : goal.returns-in_err-found-clause-same
returns-in_err-found-clause-same g c =
    same_reader c.args.self.now _ refl c.feed.ensures.form

pub returns-in_err-found-clause-front : goal.returns-in_err-found-clause-front
returns-in_err-found-clause-front g c =
    on_error c.from_residual.result (λ bytes before come.
    let s = c.args.self.now in
    let accepted = g.K.Sink.accepted c.args.out.now in (
      bytes,
      c.args.piece.now,
      refl,
      failed_now s (read_front s.reader.form bytes) come.taken before accepted accepted
          come.fed.read come.ran (front_now _ _ _ _ come.ran.lines),
    ))

pub write_cycles-requires-clause-made : goal.write_cycles-requires-clause-made
write_cycles-requires-clause-made g c =
    made_reader c.args.self.now _ c.requires.made refl c.feed.ensures.form
    (λ begun. (c.feed.ensures.start begun).1)

pub write_cycles-requires-clause-room : goal.write_cycles-requires-clause-room
write_cycles-requires-clause-room g c =
    let s = c.args.self.now in
    let w = c.requires.within in
    let piece = c.args.piece.now in
    let reads = fed_reads c.feed.result s.reader c.feed.new.self piece c.in_ok-found.found
    (sym c.in_ok-found.ensures) c.feed.ensures.read in
    room_of s _ (read_front c.feed.new.self.form (w.bytes ++ piece)) w.come.taken w.before
    (g.K.Sink.accepted c.args.out.now) w.come.ran (reads w.bytes w.come.taken w.come.fed).read
    (front_room c.feed.new.self w.bytes piece w.within) refl

pub returns-in_err-write_cycles-clause-same : goal.returns-in_err-write_cycles-clause-same
returns-in_err-write_cycles-clause-same g c =
    let s = c.args.self.now in
    let m : Simulation = record s { reader = c.feed.new.self } in
    same_then s m c.write_cycles.new.self (same_reader s m refl c.feed.ensures.form)
    c.write_cycles.ensures.same

pub returns-in_err-write_cycles-clause-front : goal.returns-in_err-write_cycles-clause-front
returns-in_err-write_cycles-clause-front g c =
    on_error c.from_residual-in_err-write_cycles.result (λ bytes before come.
    let s = c.args.self.now in
    let m : Simulation = record s { reader = c.feed.new.self } in
    let piece = c.args.piece.now in
    let reads = fed_reads c.feed.result s.reader c.feed.new.self piece c.in_ok-found.found
    (sym c.in_ok-found.ensures) c.feed.ensures.read in
    let fed = reads bytes come.taken come.fed in
    let ran = read_more s m come.taken before (g.K.Sink.accepted c.args.out.now) refl
    (λ started. (c.feed.ensures.start (c.requires.made.begun started)).0) come.ran in (
      bytes ++ piece,
      [],
      sym (append-nil (bytes ++ piece)),
      refused_by s m (λ form. read_front form (bytes ++ piece)) before
          (g.K.Sink.accepted c.write_cycles.new.out) refl c.feed.ensures.form
          (c.in_err-write_cycles.ensures.front
          (read_front c.feed.new.self.form (bytes ++ piece)) before come.taken fed.read ran),
    ))

pub returns-clause-same : goal.returns-clause-same
returns-clause-same g c =
    let s = c.args.self.now in
    let m : Simulation = record s { reader = c.feed.new.self } in
    same_then s m c.write_cycles.new.self (same_reader s m refl c.feed.ensures.form)
    c.write_cycles.ensures.same

pub returns-clause-come : goal.returns-clause-come
returns-clause-come g c = λ bytes before come.
    let s = c.args.self.now in
    let m : Simulation = record s { reader = c.feed.new.self } in
    let piece = c.args.piece.now in
    let reads = fed_reads c.feed.result s.reader c.feed.new.self piece c.in_ok-found.found
    (sym c.in_ok-found.ensures) c.feed.ensures.read in
    c.in_ok-write_cycles.ensures.fed (bytes ++ piece) before come.taken
    (reads bytes come.taken come.fed)
    (read_more s m come.taken before (g.K.Sink.accepted c.args.out.now) refl
    (λ started. (c.feed.ensures.start (c.requires.made.begun started)).0) come.ran)

pub returns-clause-found : goal.returns-clause-found
returns-clause-found g c =
    ap (λ o. ending_from (answer_of o)) c.write_cycles.ensures.fault
    ∙ ap ending_from (sym c.feed.ensures.answer)
    ∙ sym c.in_ok-found.ensures
