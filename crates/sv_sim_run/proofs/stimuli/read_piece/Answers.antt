use Rattle.std.proofs.Common.{◌<◌, ◌+◌, length, refl, sym}
use Rattle.sv_sim_run.proofs.Loops.{end_room, read_within, read_room, piece_ends, some_of}
use Rattle.sv_sim_run.proofs.Loops.{piece_end_fails, piece_reads}
use Rattle.sv_sim_run.proofs.stimuli.read_piece.Goals as goal

pub end-requires-clause-within : goal.end-requires-clause-within
end-requires-clause-within g c =
    end_room (c.args.left + length c.args.piece.now) (g.K.Sink.accepted c.args.out.now)
    c.args.simulation.now c.requires.way c.requires.some

pub returns-in_err-ending-clause-reads : goal.returns-in_err-ending-clause-reads
returns-in_err-ending-clause-reads g c bytes before way =
    piece_end_fails bytes c.args.piece.now c.args.left before (g.K.Sink.accepted c.args.out.now)
    (g.K.Sink.accepted c.end.new.out) c.args.simulation.now c.end.new.self way
    c.from_residual.result c.from_residual.ensures.0 c.requires.some
    (sym c.if-is_empty.ensures)
    c.in_err-ending.ensures.front

pub returns-then-is_empty-clause-reads : goal.returns-then-is_empty-clause-reads
returns-then-is_empty-clause-reads g c bytes before way =
    piece_ends bytes c.args.piece.now c.args.left before (g.K.Sink.accepted c.args.out.now)
    (g.K.Sink.accepted c.end.new.out) c.args.simulation.now c.end.new.self way
    c.in_ok-ending.ending c.requires.some (sym c.if-is_empty.ensures) c.in_ok-ending.ensures.made
    c.in_ok-ending.ensures.ended

pub read-requires-clause-room : goal.read-requires-clause-room
read-requires-clause-room g c =
    let some : 0 < length c.args.piece.now =
    some_of (length c.args.piece.now) (sym c.if-is_empty.ensures) in
    read_room c.args.piece.now c.args.left c.within_limit-within.result
    (g.K.Sink.accepted c.args.out.now) c.args.simulation.now c.requires.way some c.requires.few

pub read-requires-clause-within : goal.read-requires-clause-within
read-requires-clause-within g c =
    let some : 0 < length c.args.piece.now =
    some_of (length c.args.piece.now) (sym c.if-is_empty.ensures) in
    read_within c.args.piece.now c.args.left c.within_limit-within.result
    (g.K.Sink.accepted c.args.out.now) c.args.simulation.now c.requires.way some
    c.within_limit-within.ensures

pub returns-clause-reads : goal.returns-clause-reads
returns-clause-reads g c bytes before way =
    let some : 0 < length c.args.piece.now =
    some_of (length c.args.piece.now) (sym c.if-is_empty.ensures) in
    piece_reads bytes c.args.piece.now c.args.left before (g.K.Sink.accepted c.args.out.now)
    (g.K.Sink.accepted c.read.new.out) c.args.simulation.now c.read.new.self way _
    c.within_limit-within.result c.read.result some c.within_limit-within.ensures refl
    c.read.ensures.made c.read.ensures.open c.read.ensures.come c.read.ensures.found
    c.read.ensures.front
