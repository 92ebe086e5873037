use Rattle.std.proofs.Common.{◌≡◌, ◌+◌, ◌≤◌, ◌++◌, ◌∷◌, [], ℕ, List, length, subst, sym, ap}
use Rattle.std.proofs.Common.{◌∙◌, refl, arith, length-append}
use Rattle.std.proofs.lemmas.Result.{on_err_weaker, on_ok_weaker}
use Rattle.sv_flat.specs.SignalLists.{inputs}
use Rattle.sv_flat.specs.Given.{FitListed}
use Rattle.sv_trace.specs.Reading.{Reading, HasFed, HasRead}
use Rattle.sv_sim_run.specs.declared.simulations.Simulation.{Simulation}
use Rattle.sv_sim_run.specs.Progress.{flat_of, HasRunCycles}
use Rattle.sv_sim_run.proofs.CallFacts.{on_error, both_ok, room_started, same_started}
use Rattle.sv_sim_run.proofs.CallFacts.{same_reader, rounds_room, put_all_of, made_put}
use Rattle.sv_sim_run.proofs.LineFacts.{front_now, front_rest}
use Rattle.sv_sim_run.proofs.ProgressFacts.{failed_now, failed_run, failed_same, same_again}
use Rattle.sv_sim_run.proofs.ProgressFacts.{same_then, made_reader, read_more, cycle_room}
use Rattle.sv_sim_run.proofs.ProgressFacts.{begun_room}
use Rattle.sv_sim_run.proofs.StepFacts.{rose_then}
use Rattle.sv_sim_run.proofs.simulations.Simulation.write_cycles.Goals as goal

some_first : (cycle : List ℕ) (before after : List (List ℕ)) → before ≡ cycle ∷ after →
    1 ≤ length before
some_first cycle before after is = omega (arith, ap length is)

pub returns-in_err-start-clause-same : goal.returns-in_err-start-clause-same
returns-in_err-start-clause-same g c =
    same_started c.args.self.now c.start.new.self c.start.ensures.rest c.start.ensures.order

pub returns-in_err-start-clause-front : goal.returns-in_err-start-clause-front
returns-in_err-start-clause-front g c =
    on_error c.from_residual.result (λ read before taken has ran.
    failed_now c.args.self.now read taken before (g.K.Sink.accepted c.args.out.now)
    (g.K.Sink.accepted c.args.out.now) has ran (front_now _ _ _ _ ran.lines))

pub loop-inputs-init : goal.loop-inputs-init
loop-inputs-init g c = record {
  made = c.start.ensures.made;
  room = room_started c.args.self.now c.start.new.self c.start.ensures.rest
      c.start.ensures.rounds c.requires.room;
  same = same_again c.start.new.self;
  begun = λ begun. c.in_ok-start.ensures.started
      (sym (ap (λ (x : Simulation). x.reader.said.begun) c.start.ensures.rest) ∙ begun);
  fed = λ bytes before taken fed ran. (taken, fed, ran);
  read_all = λ read before taken has ran. (taken, has, ran);
  fault = refl;
  finished = refl;
  kept = refl;
}

pub write_cycle-requires-clause-made : goal.write_cycle-requires-clause-made
write_cycle-requires-clause-made g c =
    made_reader c.loop-inputs.self _ c.loop-inputs.invariant.made refl
    (ap (λ (r : Reading). r.form) c.next_cycle.ensures.same)
    (λ begun. ap (λ (r : Reading). r.said.begun) c.next_cycle.ensures.same ∙ begun)

pub write_cycle-requires-clause-started : goal.write_cycle-requires-clause-started
write_cycle-requires-clause-started g c =
    let l = c.loop-inputs.self in
    let some = some_first c.in-Some.inputs.items l.reader.said.cycles
    c.next_cycle.new.self.said.cycles c.in-Some.ensures.cycle in
    c.loop-inputs.invariant.begun (begun_room l c.loop-inputs.invariant.room some)

pub write_cycle-requires-clause-fit : goal.write_cycle-requires-clause-fit
write_cycle-requires-clause-fit g c =
    let flat = flat_of c.loop-inputs.self in
    subst (λ vs. FitListed flat.signals (inputs flat) vs) (sym c.as_slice.ensures.value)
    (c.in-Some.ensures.fits flat c.loop-inputs.invariant.made.form)

pub write_cycle-requires-clause-room : goal.write_cycle-requires-clause-room
write_cycle-requires-clause-room g c =
    let l = c.loop-inputs.self in
    let some = some_first c.in-Some.inputs.items l.reader.said.cycles
    c.next_cycle.new.self.said.cycles c.in-Some.ensures.cycle in
    let low = cycle_room l c.loop-inputs.invariant.room some in
    omega (arith, low)

pub write_cycle-requires-clause-rounds : goal.write_cycle-requires-clause-rounds
write_cycle-requires-clause-rounds g c =
    let l = c.loop-inputs.self in
    let some = some_first c.in-Some.inputs.items l.reader.said.cycles
    c.next_cycle.new.self.said.cycles c.in-Some.ensures.cycle in
    rounds_room _ l.cycle (cycle_room l c.loop-inputs.invariant.room some)
    c.loop-inputs.invariant.room.rounds

pub returns-in_err-write_cycle-clause-same : goal.returns-in_err-write_cycle-clause-same
returns-in_err-write_cycle-clause-same g c =
    let s = c.args.self.now in
    let l = c.loop-inputs.self in
    let m : Simulation = record l { reader = c.next_cycle.new.self } in
    same_then s c.start.new.self c.write_cycle.new.self
    (same_started s c.start.new.self c.start.ensures.rest c.start.ensures.order)
    (same_then c.start.new.self l c.write_cycle.new.self c.loop-inputs.invariant.same
    (same_then l m c.write_cycle.new.self
    (same_reader l m refl (ap (λ (r : Reading). r.form) c.next_cycle.ensures.same))
    c.write_cycle.ensures.same))

pub returns-in_err-write_cycle-clause-front : goal.returns-in_err-write_cycle-clause-front
returns-in_err-write_cycle-clause-front g c =
    on_error c.from_residual-in_err-write_cycle.result (λ read before taken has ran.
    let s = c.args.self.now in
    let l = c.loop-inputs.self in
    let m : Simulation = record l { reader = c.next_cycle.new.self } in
    let us = c.as_slice.result.now in
    let same = c.next_cycle.ensures.same in
    let start_has = subst (λ (r : Reading). HasRead read taken r)
    (sym (ap (λ (x : Simulation). x.reader) c.start.ensures.rest)) has in
    let now = c.loop-inputs.invariant.read_all read before taken start_has
    (c.in_ok-start.ensures.ran taken before (g.K.Sink.accepted c.args.out.now) ran) in
    let more = subst (λ (vs : List ℕ). HasRead read (now.0 ++ vs ∷ []) c.next_cycle.new.self)
    (sym c.as_slice.ensures.value) (c.in-Some.ensures.read read now.0 now.1) in
    let here = read_more l m now.0 before (g.K.Sink.accepted c.loop-inputs.out) refl
    (λ _. ap (λ (r : Reading). r.said.start) same) now.2 in
    let wrote = c.in_err-write_cycle.ensures.front now.0 before here in
    let failed = failed_run m read (now.0 ++ us ∷ []) c.next_cycle.new.self before
    (g.K.Sink.accepted c.write_cycle.new.out) more refl wrote in
    failed_same read before (g.K.Sink.accepted c.write_cycle.new.out) s m failed
    (same_then s c.start.new.self m
    (same_started s c.start.new.self c.start.ensures.rest c.start.ensures.order)
    (same_then c.start.new.self l m c.loop-inputs.invariant.same
    (same_reader l m refl (ap (λ (r : Reading). r.form) same)))))

pub returns-in_err-write_cycle-clause-fault : goal.returns-in_err-write_cycle-clause-fault
returns-in_err-write_cycle-clause-fault g c =
    ap (λ (r : Reading). r.fault) (c.write_cycle.ensures.reader ∙ c.next_cycle.ensures.same)
    ∙ c.loop-inputs.invariant.fault
    ∙ ap (λ (x : Simulation). x.reader.fault) c.start.ensures.rest

pub returns-in_err-write_cycle-clause-open : goal.returns-in_err-write_cycle-clause-open
returns-in_err-write_cycle-clause-open g c =
    ap (λ (r : Reading). r.finished) (c.write_cycle.ensures.reader ∙ c.next_cycle.ensures.same)
    ∙ c.loop-inputs.invariant.finished
    ∙ ap (λ (x : Simulation). x.reader.finished) c.start.ensures.rest

pub loop-inputs-smaller : goal.loop-inputs-smaller
loop-inputs-smaller g c =
    omega (
      arith,
      ap (λ (r : Reading). length r.said.cycles) c.write_cycle.ensures.reader,
      ap length c.in-Some.ensures.cycle,
    )

pub loop-inputs-preserved : goal.loop-inputs-preserved
loop-inputs-preserved g c =
    let l = c.loop-inputs.self in
    let m : Simulation = record l { reader = c.next_cycle.new.self } in
    let new = c.write_cycle.new.self in
    let inv = c.loop-inputs.invariant in
    let cs = c.in-Some.inputs.items in
    let same = c.next_cycle.ensures.same in
    let reader = c.write_cycle.ensures.reader in
    let accepted = g.K.Sink.accepted c.write_cycle.new.out in
    let run : (taken : List (List ℕ)) (before : List ℕ)
    → HasRunCycles taken before (g.K.Sink.accepted c.loop-inputs.out) l
    → HasRunCycles (taken ++ cs ∷ []) before accepted new =
    λ taken before ran.
    subst (λ vs. HasRunCycles (taken ++ vs ∷ []) before accepted new) c.as_slice.ensures.value
    (c.in_ok-write_cycle.ensures.ran taken before
    (read_more l m taken before (g.K.Sink.accepted c.loop-inputs.out) refl
    (λ _. ap (λ (r : Reading). r.said.start) same) ran)) in
    record {
      made = c.write_cycle.ensures.made;
      room = record {
        read = inv.room.read;
        taken = inv.room.taken ++ cs ∷ [];
        has = subst (λ (r : Reading). HasRead inv.room.read (inv.room.taken ++ cs ∷ []) r)
            (sym reader) (c.in-Some.ensures.read inv.room.read inv.room.taken inv.room.has);
        few = inv.room.few;
        cycle = c.in_ok-write_cycle.ensures.counted ∙ ap (λ n. n + 1) inv.room.cycle
            ∙ sym (length-append inv.room.taken (cs ∷ []));
        rounds = c.in_ok-write_cycle.ensures.rounds inv.room.rounds;
      };
      same = same_then c.start.new.self l new inv.same
          (same_then l m new (same_reader l m refl (ap (λ (r : Reading). r.form) same))
          c.write_cycle.ensures.same);
      begun = λ _. c.write_cycle.ensures.started;
      fed = λ bytes before taken fed ran.
          let now = inv.fed bytes before taken fed ran in (
            now.0 ++ cs ∷ [],
            subst (λ (r : Reading). HasFed bytes (now.0 ++ cs ∷ []) r) (sym reader)
                (c.in-Some.ensures.fed bytes now.0 now.1),
            run now.0 before now.2,
          );
      read_all = λ read before taken has ran.
          let now = inv.read_all read before taken has ran in (
            now.0 ++ cs ∷ [],
            subst (λ (r : Reading). HasRead read (now.0 ++ cs ∷ []) r) (sym reader)
                (c.in-Some.ensures.read read now.0 now.1),
            run now.0 before now.2,
          );
      fault = ap (λ (r : Reading). r.fault) (reader ∙ same) ∙ inv.fault;
      finished = ap (λ (r : Reading). r.finished) (reader ∙ same) ∙ inv.finished;
      kept = c.in_ok-write_cycle.ensures.kept ∙ inv.kept;
    }

pub returns-clause-made : goal.returns-clause-made
returns-clause-made g c =
    made_put c.loop-inputs.self _ c.loop-inputs.invariant.made refl
    (c.in_default.ensures.none refl).1

pub returns-clause-same : goal.returns-clause-same
returns-clause-same g c =
    let s = c.args.self.now in
    let l = c.loop-inputs.self in
    let all = same_then s c.start.new.self l
    (same_started s c.start.new.self c.start.ensures.rest c.start.ensures.order)
    c.loop-inputs.invariant.same in
    record {
      design = all.design;
      level = all.level;
      order = all.order;
      form = ap (λ (r : Reading). r.form) (c.in_default.ensures.none refl).1 ∙ all.form;
    }

pub returns-clause-fed : goal.returns-clause-fed
returns-clause-fed g c =
    both_ok c.put_waiting.result (λ whole none. λ bytes before taken fed ran.
    let none_left = c.in_default.ensures.none refl in
    let start_fed = subst (λ (r : Reading). HasFed bytes taken r)
    (sym (ap (λ (x : Simulation). x.reader) c.start.ensures.rest)) fed in
    let now = c.loop-inputs.invariant.fed bytes before taken start_fed
    (c.in_ok-start.ensures.ran taken before (g.K.Sink.accepted c.args.out.now) ran) in
    record {
      taken = now.0;
      fed = subst (λ (r : Reading). HasFed bytes now.0 r) (sym none_left.1) now.1;
      all = ap (λ (r : Reading). length r.said.cycles) none_left.1 ∙ ap length none_left.0;
      ran = put_all_of c.loop-inputs.self _ now.0 before (g.K.Sink.accepted c.loop-inputs.out)
          (g.K.Sink.accepted c.put_waiting.new.out) now.2 whole none refl none_left.1;
      put = none;
    })
    c.put_waiting.ensures.whole c.put_waiting.ensures.none

pub returns-clause-read_all : goal.returns-clause-read_all
returns-clause-read_all g c =
    both_ok c.put_waiting.result (λ whole none. λ read before taken has ran.
    let none_left = c.in_default.ensures.none refl in
    let start_has = subst (λ (r : Reading). HasRead read taken r)
    (sym (ap (λ (x : Simulation). x.reader) c.start.ensures.rest)) has in
    let now = c.loop-inputs.invariant.read_all read before taken start_has
    (c.in_ok-start.ensures.ran taken before (g.K.Sink.accepted c.args.out.now) ran) in
    record {
      taken = now.0;
      read_all = subst (λ (r : Reading). HasRead read now.0 r) (sym none_left.1) now.1;
      all = ap (λ (r : Reading). length r.said.cycles) none_left.1 ∙ ap length none_left.0;
      ran = put_all_of c.loop-inputs.self _ now.0 before (g.K.Sink.accepted c.loop-inputs.out)
          (g.K.Sink.accepted c.put_waiting.new.out) now.2 whole none refl none_left.1;
      put = none;
    })
    c.put_waiting.ensures.whole c.put_waiting.ensures.none

pub returns-clause-front : goal.returns-clause-front
returns-clause-front g c =
    on_err_weaker c.put_waiting.result (λ wrote. λ read before taken has ran.
    let s = c.args.self.now in
    let l = c.loop-inputs.self in
    let start_has = subst (λ (r : Reading). HasRead read taken r)
    (sym (ap (λ (x : Simulation). x.reader) c.start.ensures.rest)) has in
    let now = c.loop-inputs.invariant.read_all read before taken start_has
    (c.in_ok-start.ensures.ran taken before (g.K.Sink.accepted c.args.out.now) ran) in
    let accepted = g.K.Sink.accepted c.put_waiting.new.out in
    failed_same read before accepted s l
    (failed_now l read now.0 before (g.K.Sink.accepted c.loop-inputs.out) accepted now.1 now.2
    (front_rest _ _ _ _ now.2.lines accepted wrote))
    (same_then s c.start.new.self l
    (same_started s c.start.new.self c.start.ensures.rest c.start.ensures.order)
    c.loop-inputs.invariant.same))
    c.put_waiting.ensures.refused

pub returns-clause-fault : goal.returns-clause-fault
returns-clause-fault g c =
    ap (λ (r : Reading). r.fault) (c.in_default.ensures.none refl).1
    ∙ c.loop-inputs.invariant.fault
    ∙ ap (λ (x : Simulation). x.reader.fault) c.start.ensures.rest

pub returns-clause-open : goal.returns-clause-open
returns-clause-open g c =
    ap (λ (r : Reading). r.finished) (c.in_default.ensures.none refl).1
    ∙ c.loop-inputs.invariant.finished
    ∙ ap (λ (x : Simulation). x.reader.finished) c.start.ensures.rest

pub returns-clause-failed : goal.returns-clause-failed
returns-clause-failed g c = λ write.
    rose_then (g.K.Sink.faults c.args.out.now) (g.K.Sink.faults c.loop-inputs.out)
    (g.K.Sink.faults c.put_waiting.new.out) (omega (arith, c.loop-inputs.invariant.kept))
    (c.put_waiting.ensures.failed write)

pub returns-clause-kept : goal.returns-clause-kept
returns-clause-kept g c =
    on_ok_weaker c.put_waiting.result (λ put. put ∙ c.loop-inputs.invariant.kept)
    c.put_waiting.ensures.kept
