use Rattle.std.proofs.Common.{◌≡◌, ◌+◌, ◌-◌, [], ◌++◌, length, take, refl, sym}
use Rattle.std.proofs.Common.{ap, ◌∙◌, arith, rules}
use Rattle.std.specs.Prelude.{Err}
use Rattle.std.proofs.lemmas.Result.{IfOk-from_err}
use Rattle.sv_sim.proofs.Simulated.{written}
use Rattle.sv_sim_run.specs.Simulated.{largest_stimulus}
use Rattle.sv_sim_run.proofs.CallFacts.{on_error}
use Rattle.sv_sim_run.proofs.Loops.{under_way, takes_none}
use Rattle.sv_sim_run.proofs.ProgressFacts.{same_again, same_then}
use Rattle.sv_sim_run.proofs.Loops.{stops_taken, large_ends, all_taken}
use Rattle.sv_sim_run.proofs.Loops.{stops_with_same, all_same, large_open}
use Rattle.sv_sim_run.proofs.Loops.{stops_open, open_same}
use Rattle.sv_sim_run.proofs.Pieces.{handed_on, full_no_read, full_no_write, read_no_write}
use Rattle.sv_sim_run.proofs.Pieces.{takes_no_more, piece_length, piece_fits, piece_few}
use Rattle.sv_sim_run.proofs.Pieces.{still_open, open_twice}
use Rattle.sv_sim_run.proofs.Pieces.{some_taken}
use Rattle.sv_sim_run.proofs.PieceTurns.{turn_way, turn_on, turn_takes, turn_ends, turn_stops}
use Rattle.sv_sim_run.proofs.PieceTurns.{turn_open, turn_stops_open}
use Rattle.sv_sim_run.proofs.StepFacts.{rose_then}
use Rattle.sv_sim_run.proofs.stimuli.read_all.Goals as goal

-- ---- no buffer

pub returns-in_err-buffer-clause-same : goal.returns-in_err-buffer-clause-same
returns-in_err-buffer-clause-same g c = same_again c.args.simulation.now

pub returns-in_err-buffer-clause-ends : goal.returns-in_err-buffer-clause-ends
returns-in_err-buffer-clause-ends g c =
    IfOk-from_err c.from_residual.result _ c.from_residual.ensures.0

pub returns-in_err-buffer-clause-to_the_end : goal.returns-in_err-buffer-clause-to_the_end
returns-in_err-buffer-clause-to_the_end g c goes_on taken more given =
    IfOk-from_err c.from_residual.result _ c.from_residual.ensures.0

pub returns-in_err-buffer-clause-stops : goal.returns-in_err-buffer-clause-stops
returns-in_err-buffer-clause-stops g c =
    let given = g.S.Source.given c.args.input.now in
    let left = g.S.Source.left c.args.input.now in
    let accepted = g.K.Sink.accepted c.args.out.now in
    on_error c.from_residual.result
    (stops_taken g.S.Source.tells given given left left [] (largest_stimulus + 1) accepted accepted
    c.args.simulation.now (takes_none g.S.Source.tells given left)
    (under_way accepted c.args.simulation.now c.requires.made c.requires.open c.requires.come))

pub returns-in_err-buffer-clause-prompt : goal.returns-in_err-buffer-clause-prompt
returns-in_err-buffer-clause-prompt g c = λ read.
    absurd (full_no_read (handed_on c.from_residual.result _ _ c.from_residual.ensures.1 read))

pub returns-in_err-buffer-clause-counts : goal.returns-in_err-buffer-clause-counts
returns-in_err-buffer-clause-counts g c = omega arith

pub returns-in_err-buffer-clause-read_fault : goal.returns-in_err-buffer-clause-read_fault
returns-in_err-buffer-clause-read_fault g c = λ read.
    absurd (full_no_read (handed_on c.from_residual.result _ _ c.from_residual.ensures.1 read))

pub returns-in_err-buffer-clause-write_fault : goal.returns-in_err-buffer-clause-write_fault
returns-in_err-buffer-clause-write_fault g c = λ write.
    absurd (full_no_write (handed_on c.from_residual.result _ _ c.from_residual.ensures.1 write))

pub returns-in_err-buffer-clause-front_to_the_end :
    goal.returns-in_err-buffer-clause-front_to_the_end
returns-in_err-buffer-clause-front_to_the_end g c =
    let given = g.S.Source.given c.args.input.now in
    let left = g.S.Source.left c.args.input.now in
    let accepted = g.K.Sink.accepted c.args.out.now in
    let s = c.args.simulation.now in
    let ended = g.S.Source.ended c.args.input.now in
    open_same c.from_residual.result ended given given accepted accepted s s (same_again s)
    (stops_open g.S.Source.tells given given left left [] (largest_stimulus + 1) accepted accepted
    s (takes_none g.S.Source.tells given left)
    (under_way accepted s c.requires.made c.requires.open c.requires.come) ended)

pub returns-in_err-buffer-clause-unfailed : goal.returns-in_err-buffer-clause-unfailed
returns-in_err-buffer-clause-unfailed g c =
    IfOk-from_err c.from_residual.result _ c.from_residual.ensures.0

pub returns-in_err-buffer-clause-unended : goal.returns-in_err-buffer-clause-unended
returns-in_err-buffer-clause-unended g c = λ read.
    absurd (full_no_read (handed_on c.from_residual.result _ _ c.from_residual.ensures.1 read))

pub returns-in_err-buffer-clause-no_write_fault :
    goal.returns-in_err-buffer-clause-no_write_fault
returns-in_err-buffer-clause-no_write_fault g c = λ read.
    absurd (full_no_read (handed_on c.from_residual.result _ _ c.from_residual.ensures.1 read))

pub overflow_add-left : goal.overflow_add-left
overflow_add-left g c = search rules

pub pieces-init : goal.pieces-init
pieces-init g c =
    let accepted = g.K.Sink.accepted c.args.out.now in
    record {
      same = same_again c.args.simulation.now;
      way = (
        [],
        takes_none g.S.Source.tells (g.S.Source.given c.args.input.now)
            (g.S.Source.left c.args.input.now),
        under_way accepted c.args.simulation.now c.requires.made c.requires.open c.requires.come,
      );
      room = c.in_ok-buffer.ensures.len;
      sink_kept = refl;
      source_kept = refl;
      unended = (λ after. after, λ before. before);
    }

-- ---- a take

pub take_piece-requires-clause-some : goal.take_piece-requires-clause-some
take_piece-requires-clause-some g c = c.pieces-test.true

pub take_piece-requires-clause-room : goal.take_piece-requires-clause-room
take_piece-requires-clause-room g c =
    omega (arith, c.deref_mut.ensures.len, c.pieces.invariant.room)

pub returns-in_err-count-clause-same : goal.returns-in_err-count-clause-same
returns-in_err-count-clause-same g c = c.pieces.invariant.same

pub returns-in_err-count-clause-ends : goal.returns-in_err-count-clause-ends
returns-in_err-count-clause-ends g c =
    IfOk-from_err c.from_residual-in_err-count.result _ c.from_residual-in_err-count.ensures.0

pub returns-in_err-count-clause-to_the_end : goal.returns-in_err-count-clause-to_the_end
returns-in_err-count-clause-to_the_end g c goes_on taken more given =
    IfOk-from_err c.from_residual-in_err-count.result _ c.from_residual-in_err-count.ensures.0

pub returns-in_err-count-clause-stops : goal.returns-in_err-count-clause-stops
returns-in_err-count-clause-stops g c =
    let tells = g.S.Source.tells in
    let given = g.S.Source.given in
    let left = g.S.Source.left in
    let way = c.pieces.invariant.way in
    let takes = takes_no_more tells (given c.args.input.now) (given c.pieces.input)
    (given c.take_piece.new.input) (left c.args.input.now) (left c.pieces.input)
    (left c.take_piece.new.input) way.0 way.1 c.in_err-count.ensures.none in
    on_error c.from_residual-in_err-count.result
    (stops_with_same tells (given c.args.input.now) (given c.take_piece.new.input)
    (left c.args.input.now) (left c.take_piece.new.input) (g.K.Sink.accepted c.args.out.now)
    (g.K.Sink.accepted c.pieces.out) c.args.simulation.now c.pieces.simulation
    c.pieces.invariant.same
    (stops_taken tells (given c.args.input.now) (given c.take_piece.new.input)
    (left c.args.input.now) (left c.take_piece.new.input) way.0 c.pieces.left
    (g.K.Sink.accepted c.args.out.now) (g.K.Sink.accepted c.pieces.out) c.pieces.simulation takes
    way.2))

pub returns-in_err-count-clause-prompt : goal.returns-in_err-count-clause-prompt
returns-in_err-count-clause-prompt g c = λ read.
    let tells = g.S.Source.tells in
    let given = g.S.Source.given in
    let left = g.S.Source.left in
    let before = g.K.Sink.accepted c.args.out.now in
    let accepted = g.K.Sink.accepted c.pieces.out in
    let way = c.pieces.invariant.way in
    let takes = takes_no_more tells (given c.args.input.now) (given c.pieces.input)
    (given c.take_piece.new.input) (left c.args.input.now) (left c.pieces.input)
    (left c.take_piece.new.input) way.0 way.1 c.in_err-count.ensures.none in (
      way.0,
      takes.given,
      all_same way.0 before accepted c.args.simulation.now c.pieces.simulation
          c.pieces.invariant.same
          (all_taken tells (given c.args.input.now) (given c.take_piece.new.input)
          (left c.args.input.now) (left c.take_piece.new.input) way.0 c.pieces.left before accepted
          c.pieces.simulation takes way.2 c.pieces-test.true),
    )

pub returns-in_err-count-clause-counts : goal.returns-in_err-count-clause-counts
returns-in_err-count-clause-counts g c = omega (arith, c.pieces.invariant.sink_kept)

pub returns-in_err-count-clause-read_fault : goal.returns-in_err-count-clause-read_fault
returns-in_err-count-clause-read_fault g c = λ read.
    rose_then (g.S.Source.faults c.args.input.now) (g.S.Source.faults c.pieces.input)
    (g.S.Source.faults c.take_piece.new.input) (omega (arith, c.pieces.invariant.source_kept))
    (c.in_err-count.ensures.rose refl)

pub returns-in_err-count-clause-write_fault : goal.returns-in_err-count-clause-write_fault
returns-in_err-count-clause-write_fault g c = λ write.
    absurd (read_no_write (sym c.in_err-count.ensures.failed
    ∙ handed_on c.from_residual-in_err-count.result _ _ c.from_residual-in_err-count.ensures.1
    write))

pub returns-in_err-count-clause-front_to_the_end :
    goal.returns-in_err-count-clause-front_to_the_end
returns-in_err-count-clause-front_to_the_end g c =
    let tells = g.S.Source.tells in
    let given = g.S.Source.given in
    let left = g.S.Source.left in
    let before = g.K.Sink.accepted c.args.out.now in
    let accepted = g.K.Sink.accepted c.pieces.out in
    let ended = g.S.Source.ended c.take_piece.new.input in
    let way = c.pieces.invariant.way in
    let takes = takes_no_more tells (given c.args.input.now) (given c.pieces.input)
    (given c.take_piece.new.input) (left c.args.input.now) (left c.pieces.input)
    (left c.take_piece.new.input) way.0 way.1 c.in_err-count.ensures.none in
    open_same c.from_residual-in_err-count.result ended (given c.args.input.now)
    (given c.take_piece.new.input) before accepted c.args.simulation.now c.pieces.simulation
    c.pieces.invariant.same
    (stops_open tells (given c.args.input.now) (given c.take_piece.new.input)
    (left c.args.input.now) (left c.take_piece.new.input) way.0 c.pieces.left before accepted
    c.pieces.simulation takes way.2 ended)

pub returns-in_err-count-clause-unfailed : goal.returns-in_err-count-clause-unfailed
returns-in_err-count-clause-unfailed g c =
    IfOk-from_err c.from_residual-in_err-count.result _ c.from_residual-in_err-count.ensures.0

pub returns-in_err-count-clause-unended : goal.returns-in_err-count-clause-unended
returns-in_err-count-clause-unended g c = λ read.
    open_twice (g.S.Source.ended c.args.input.now) (g.S.Source.ended c.pieces.input)
    (g.S.Source.ended c.take_piece.new.input) c.pieces.invariant.unended
    (still_open (g.S.Source.ended c.pieces.input) (g.S.Source.ended c.take_piece.new.input)
    c.in_err-count.ensures.shows (λ shown. absurd (cc)))

pub returns-in_err-count-clause-no_write_fault : goal.returns-in_err-count-clause-no_write_fault
returns-in_err-count-clause-no_write_fault g c = λ read. c.pieces.invariant.sink_kept

pub overflow_sub-left : goal.overflow_sub-left
overflow_sub-left g c = c.in_ok-count.ensures.within.0

-- ---- a piece

pub slice_bounds-read_piece-end : goal.slice_bounds-read_piece-end
slice_bounds-read_piece-end g c =
    let value : c.deref.result.now ≡ c.take_piece.new.buffer =
    c.deref.ensures.value
    ∙ written c.pieces.buffer.len c.take_piece.new.buffer
    c.pieces.buffer.items (c.take_piece.auto.buffer ∙ c.deref_mut.ensures.len) in
    sym (piece_length c.in_ok-count.count c.pieces.left c.take_piece.new.buffer c.deref.result.now
    value c.in_ok-count.ensures.within)

pub read_piece-requires-clause-few : goal.read_piece-requires-clause-few
read_piece-requires-clause-few g c =
    let value : c.deref.result.now ≡ c.take_piece.new.buffer =
    c.deref.ensures.value
    ∙ written c.pieces.buffer.len c.take_piece.new.buffer
    c.pieces.buffer.items (c.take_piece.auto.buffer ∙ c.deref_mut.ensures.len) in
    let room : length c.take_piece.new.buffer ≡ 4096 =
    omega (arith, c.take_piece.auto.buffer, c.deref_mut.ensures.len, c.pieces.invariant.room) in
    piece_few c.in_ok-count.count c.pieces.left c.take_piece.new.buffer c.deref.result.now
    value room

pub read_piece-requires-clause-some : goal.read_piece-requires-clause-some
read_piece-requires-clause-some g c =
    let value : c.deref.result.now ≡ c.take_piece.new.buffer =
    c.deref.ensures.value
    ∙ written c.pieces.buffer.len c.take_piece.new.buffer
    c.pieces.buffer.items (c.take_piece.auto.buffer ∙ c.deref_mut.ensures.len) in
    let fits = piece_fits c.in_ok-count.count c.pieces.left c.take_piece.new.buffer
    c.deref.result.now value c.in_ok-count.ensures.within in
    omega (arith, fits, c.pieces-test.true)

pub read_piece-requires-clause-way : goal.read_piece-requires-clause-way
read_piece-requires-clause-way g c =
    let value : c.deref.result.now ≡ c.take_piece.new.buffer = c.deref.ensures.value
    ∙ written c.pieces.buffer.len c.take_piece.new.buffer
    c.pieces.buffer.items (c.take_piece.auto.buffer ∙ c.deref_mut.ensures.len) in (
      c.pieces.invariant.way.0,
      g.K.Sink.accepted c.args.out.now,
      turn_way c.pieces.invariant.way c.in_ok-count.count value c.in_ok-count.ensures.within,
    )

pub returns-in_err-ending-clause-same : goal.returns-in_err-ending-clause-same
returns-in_err-ending-clause-same g c =
    same_then c.args.simulation.now c.pieces.simulation c.read_piece.new.simulation
    c.pieces.invariant.same c.read_piece.ensures.same

pub returns-in_err-ending-clause-ends : goal.returns-in_err-ending-clause-ends
returns-in_err-ending-clause-ends g c =
    IfOk-from_err c.from_residual-in_err-ending.result _ c.from_residual-in_err-ending.ensures.0

pub returns-in_err-ending-clause-to_the_end : goal.returns-in_err-ending-clause-to_the_end
returns-in_err-ending-clause-to_the_end g c goes_on taken more given =
    IfOk-from_err c.from_residual-in_err-ending.result _ c.from_residual-in_err-ending.ensures.0

pub returns-in_err-ending-clause-stops : goal.returns-in_err-ending-clause-stops
returns-in_err-ending-clause-stops g c =
    let value : c.deref.result.now ≡ c.take_piece.new.buffer = c.deref.ensures.value
    ∙ written c.pieces.buffer.len c.take_piece.new.buffer
    c.pieces.buffer.items (c.take_piece.auto.buffer ∙ c.deref_mut.ensures.len) in
    let reads = c.in_err-ending.ensures.reads c.pieces.invariant.way.0
    (g.K.Sink.accepted c.args.out.now)
    (turn_way c.pieces.invariant.way c.in_ok-count.count value c.in_ok-count.ensures.within) in
    on_error c.from_residual-in_err-ending.result
    (stops_with_same _ _ _ _ _ _ _ c.args.simulation.now c.pieces.simulation
    c.pieces.invariant.same
    (turn_stops c.pieces.invariant.way c.in_ok-count.count value c.in_ok-count.ensures.within
    c.in_ok-count.ensures.taken c.in_ok-count.ensures.end (g.K.Sink.accepted c.read_piece.new.out)
    c.read_piece.new.simulation c.in_err-ending.field-0.0 reads))

pub returns-in_err-ending-clause-prompt : goal.returns-in_err-ending-clause-prompt
returns-in_err-ending-clause-prompt g c = λ read.
    absurd (c.in_err-ending.ensures.read
    (ap Err (handed_on c.from_residual-in_err-ending.result _ _
    c.from_residual-in_err-ending.ensures.1 read)))

pub returns-in_err-ending-clause-counts : goal.returns-in_err-ending-clause-counts
returns-in_err-ending-clause-counts g c =
    omega (arith, c.pieces.invariant.sink_kept, c.read_piece.ensures.counts)

pub returns-in_err-ending-clause-read_fault : goal.returns-in_err-ending-clause-read_fault
returns-in_err-ending-clause-read_fault g c = λ read.
    absurd (c.in_err-ending.ensures.read
    (ap Err (handed_on c.from_residual-in_err-ending.result _ _
    c.from_residual-in_err-ending.ensures.1 read)))

pub returns-in_err-ending-clause-write_fault : goal.returns-in_err-ending-clause-write_fault
returns-in_err-ending-clause-write_fault g c = λ write.
    rose_then (g.K.Sink.faults c.args.out.now) (g.K.Sink.faults c.pieces.out)
    (g.K.Sink.faults c.read_piece.new.out) (omega (arith, c.pieces.invariant.sink_kept))
    (c.in_err-ending.ensures.failed
    (ap Err (handed_on c.from_residual-in_err-ending.result _ _
    c.from_residual-in_err-ending.ensures.1 write)))

pub returns-in_err-ending-clause-front_to_the_end :
    goal.returns-in_err-ending-clause-front_to_the_end
returns-in_err-ending-clause-front_to_the_end g c =
    let value : c.deref.result.now ≡ c.take_piece.new.buffer = c.deref.ensures.value
    ∙ written c.pieces.buffer.len c.take_piece.new.buffer
    c.pieces.buffer.items (c.take_piece.auto.buffer ∙ c.deref_mut.ensures.len) in
    let reads = c.in_err-ending.ensures.reads c.pieces.invariant.way.0
    (g.K.Sink.accepted c.args.out.now)
    (turn_way c.pieces.invariant.way c.in_ok-count.count value c.in_ok-count.ensures.within) in
    open_same c.from_residual-in_err-ending.result (g.S.Source.ended c.take_piece.new.input) _ _ _ _
    c.args.simulation.now c.pieces.simulation c.pieces.invariant.same
    (turn_stops_open c.pieces.invariant.way c.in_ok-count.count value c.in_ok-count.ensures.within
    c.in_ok-count.ensures.taken (g.S.Source.ended c.take_piece.new.input)
    c.in_ok-count.ensures.ended
    (g.K.Sink.accepted c.read_piece.new.out)
    c.read_piece.new.simulation c.in_err-ending.field-0.0 reads)

pub returns-in_err-ending-clause-unfailed : goal.returns-in_err-ending-clause-unfailed
returns-in_err-ending-clause-unfailed g c =
    IfOk-from_err c.from_residual-in_err-ending.result _ c.from_residual-in_err-ending.ensures.0

pub returns-in_err-ending-clause-unended : goal.returns-in_err-ending-clause-unended
returns-in_err-ending-clause-unended g c = λ read.
    absurd (c.in_err-ending.ensures.read
    (ap Err (handed_on c.from_residual-in_err-ending.result _ _
    c.from_residual-in_err-ending.ensures.1 read)))

pub returns-in_err-ending-clause-no_write_fault :
    goal.returns-in_err-ending-clause-no_write_fault
returns-in_err-ending-clause-no_write_fault g c = λ read.
    absurd (c.in_err-ending.ensures.read
    (ap Err (handed_on c.from_residual-in_err-ending.result _ _
    c.from_residual-in_err-ending.ensures.1 read)))

-- ---- the ending

pub returns-in-Some-clause-same : goal.returns-in-Some-clause-same
returns-in-Some-clause-same g c =
    same_then c.args.simulation.now c.pieces.simulation c.read_piece.new.simulation
    c.pieces.invariant.same c.read_piece.ensures.same

pub returns-in-Some-clause-ends : goal.returns-in-Some-clause-ends
returns-in-Some-clause-ends g c =
    let value : c.deref.result.now ≡ c.take_piece.new.buffer = c.deref.ensures.value
    ∙ written c.pieces.buffer.len c.take_piece.new.buffer
    c.pieces.buffer.items (c.take_piece.auto.buffer ∙ c.deref_mut.ensures.len) in
    let reads = c.in_ok-ending.ensures.reads c.pieces.invariant.way.0
    (g.K.Sink.accepted c.args.out.now)
    (turn_way c.pieces.invariant.way c.in_ok-count.count value c.in_ok-count.ensures.within) in
    turn_ends c.pieces.invariant.way c.in_ok-count.count value c.in_ok-count.ensures.within
    c.in_ok-count.ensures.taken c.in_ok-count.ensures.end (g.K.Sink.accepted c.read_piece.new.out)
    c.read_piece.new.simulation c.in-Some.ending _ c.in-Some.is reads

pub returns-in-Some-clause-to_the_end : goal.returns-in-Some-clause-to_the_end
returns-in-Some-clause-to_the_end g c =
    let value : c.deref.result.now ≡ c.take_piece.new.buffer = c.deref.ensures.value
    ∙ written c.pieces.buffer.len c.take_piece.new.buffer
    c.pieces.buffer.items (c.take_piece.auto.buffer ∙ c.deref_mut.ensures.len) in
    let reads = c.in_ok-ending.ensures.reads c.pieces.invariant.way.0
    (g.K.Sink.accepted c.args.out.now)
    (turn_way c.pieces.invariant.way c.in_ok-count.count value c.in_ok-count.ensures.within) in
    turn_open c.pieces.invariant.way c.in_ok-count.count value c.in_ok-count.ensures.within
    c.in_ok-count.ensures.taken (g.S.Source.ended c.take_piece.new.input)
    c.in_ok-count.ensures.ended
    (g.K.Sink.accepted c.read_piece.new.out)
    c.read_piece.new.simulation c.in-Some.ending _ c.in-Some.is reads

pub returns-in-Some-clause-prompt : goal.returns-in-Some-clause-prompt
returns-in-Some-clause-prompt g c = λ read. absurd (cc)

pub returns-in-Some-clause-counts : goal.returns-in-Some-clause-counts
returns-in-Some-clause-counts g c =
    omega (arith, c.pieces.invariant.sink_kept, c.read_piece.ensures.counts)

pub returns-in-Some-clause-read_fault : goal.returns-in-Some-clause-read_fault
returns-in-Some-clause-read_fault g c = λ read. absurd (cc)

pub returns-in-Some-clause-write_fault : goal.returns-in-Some-clause-write_fault
returns-in-Some-clause-write_fault g c = λ write. absurd (cc)

pub returns-in-Some-clause-front_to_the_end : goal.returns-in-Some-clause-front_to_the_end
returns-in-Some-clause-front_to_the_end g c goes_on taken more given = tt

pub returns-in-Some-clause-unfailed : goal.returns-in-Some-clause-unfailed
returns-in-Some-clause-unfailed g c = (
  c.in_ok-count.ensures.kept ∙ c.pieces.invariant.source_kept,
  c.in_ok-ending.ensures.kept ∙ c.pieces.invariant.sink_kept,
)

pub returns-in-Some-clause-unended : goal.returns-in-Some-clause-unended
returns-in-Some-clause-unended g c = λ read. absurd (cc)

pub returns-in-Some-clause-no_write_fault : goal.returns-in-Some-clause-no_write_fault
returns-in-Some-clause-no_write_fault g c = λ read. absurd (cc)

-- ---- the next piece

pub pieces-smaller : goal.pieces-smaller
pieces-smaller g c =
    let value : c.deref.result.now ≡ c.take_piece.new.buffer = c.deref.ensures.value
    ∙ written c.pieces.buffer.len c.take_piece.new.buffer
    c.pieces.buffer.items (c.take_piece.auto.buffer ∙ c.deref_mut.ensures.len) in
    let reads = c.in_ok-ending.ensures.reads c.pieces.invariant.way.0
    (g.K.Sink.accepted c.args.out.now)
    (turn_way c.pieces.invariant.way c.in_ok-count.count value c.in_ok-count.ensures.within) in
    let found = turn_on c.pieces.invariant.way c.in_ok-count.count value
    c.in_ok-count.ensures.within (g.K.Sink.accepted c.read_piece.new.out)
    c.read_piece.new.simulation _ c.in_default.is reads in
    let within = c.in_ok-count.ensures.within in
    omega (
      arith,
      found.0,
      piece_length c.in_ok-count.count c.pieces.left c.take_piece.new.buffer c.deref.result.now
          value within,
      within.0,
    )

pub pieces-preserved : goal.pieces-preserved
pieces-preserved g c =
    let value : c.deref.result.now ≡ c.take_piece.new.buffer = c.deref.ensures.value
    ∙ written c.pieces.buffer.len c.take_piece.new.buffer
    c.pieces.buffer.items (c.take_piece.auto.buffer ∙ c.deref_mut.ensures.len) in
    let reads = c.in_ok-ending.ensures.reads c.pieces.invariant.way.0
    (g.K.Sink.accepted c.args.out.now)
    (turn_way c.pieces.invariant.way c.in_ok-count.count value c.in_ok-count.ensures.within) in
    let found = turn_on c.pieces.invariant.way c.in_ok-count.count value
    c.in_ok-count.ensures.within (g.K.Sink.accepted c.read_piece.new.out)
    c.read_piece.new.simulation _ c.in_default.is reads in
    record {
      same = same_then c.args.simulation.now c.pieces.simulation c.read_piece.new.simulation
          c.pieces.invariant.same c.read_piece.ensures.same;
      way = (
        c.pieces.invariant.way.0 ++ take c.in_ok-count.count c.deref.result.now,
        turn_takes c.pieces.invariant.way c.in_ok-count.count value c.in_ok-count.ensures.within
            c.in_ok-count.ensures.taken,
        found.1,
      );
      room = c.pieces.invariant.room;
      sink_kept = c.in_ok-ending.ensures.kept ∙ c.pieces.invariant.sink_kept;
      source_kept = c.in_ok-count.ensures.kept ∙ c.pieces.invariant.source_kept;
      unended = open_twice (g.S.Source.ended c.args.input.now) (g.S.Source.ended c.pieces.input)
          (g.S.Source.ended c.take_piece.new.input) c.pieces.invariant.unended
          (still_open (g.S.Source.ended c.pieces.input) (g.S.Source.ended c.take_piece.new.input)
          c.in_ok-count.ensures.shows
          (some_taken c.in_ok-count.count c.deref.result.now found.0));
    }

-- ---- too many bytes

pub returns-clause-same : goal.returns-clause-same
returns-clause-same g c = c.pieces.invariant.same

pub returns-clause-ends : goal.returns-clause-ends
returns-clause-ends g c =
    let way = c.pieces.invariant.way in
    large_ends g.S.Source.tells (g.S.Source.given c.args.input.now)
    (g.S.Source.given c.pieces.input) (g.S.Source.left c.args.input.now)
    (g.S.Source.left c.pieces.input) way.0 c.pieces.left (g.K.Sink.accepted c.args.out.now)
    (g.K.Sink.accepted c.pieces.out) c.pieces.simulation way.1 way.2
    (omega (arith, c.pieces-test.false))

pub returns-clause-to_the_end : goal.returns-clause-to_the_end
returns-clause-to_the_end g c =
    let way = c.pieces.invariant.way in
    large_open (g.S.Source.given c.args.input.now) (g.S.Source.given c.pieces.input) way.0
    c.pieces.left (g.K.Sink.accepted c.args.out.now) (g.K.Sink.accepted c.pieces.out)
    (g.S.Source.ended c.pieces.input) c.pieces.simulation way.1.given way.2
    (omega (arith, c.pieces-test.false))

pub returns-clause-prompt : goal.returns-clause-prompt
returns-clause-prompt g c = λ read. absurd (cc)

pub returns-clause-counts : goal.returns-clause-counts
returns-clause-counts g c = omega (arith, c.pieces.invariant.sink_kept)

pub returns-clause-read_fault : goal.returns-clause-read_fault
returns-clause-read_fault g c = λ read. absurd (cc)

pub returns-clause-write_fault : goal.returns-clause-write_fault
returns-clause-write_fault g c = λ write. absurd (cc)

pub returns-clause-front_to_the_end : goal.returns-clause-front_to_the_end
returns-clause-front_to_the_end g c goes_on taken more given = tt

pub returns-clause-unfailed : goal.returns-clause-unfailed
returns-clause-unfailed g c = (c.pieces.invariant.source_kept, c.pieces.invariant.sink_kept)

pub returns-clause-unended : goal.returns-clause-unended
returns-clause-unended g c = λ read. absurd (cc)

pub returns-clause-no_write_fault : goal.returns-clause-no_write_fault
returns-clause-no_write_fault g c = λ read. absurd (cc)
