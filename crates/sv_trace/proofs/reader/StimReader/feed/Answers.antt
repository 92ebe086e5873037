use Rattle.std.proofs.Common.{◌≡◌, ◌+◌, ◌^◌, ◌<◌, ◌++◌, None, length, sym, ap, ◌∙◌, subst}
use Rattle.sv_trace.specs.Reading.{Reading, HaveReadFront, KeepsCycles, said_of}
use Rattle.sv_trace.specs.Stimulus.{read_front}
use Rattle.sv_trace.proofs.ReaderFacts.{fed_still, piece_read, full_still, piece_full, opened}
use Rattle.sv_trace.proofs.SaidFacts.{keeps_all}
use Rattle.sv_trace.proofs.reader.StimReader.feed.Goals as goal

pub read_piece-read-requires-clause-room : goal.read_piece-read-requires-clause-room
read_piece-read-requires-clause-room c =
    let none : c.args.self.now.fault ≡ None =
    ap (λ (r : Reading). r.fault) (sym c.self.view_is) ∙ c.in_default.is in
    subst (λ (r : Reading). r.said.line + length r.rest + length c.args.piece.now < 2 ^ 64)
    (sym c.self.view_is) (c.requires.room none)

pub returns-in-Some-clause-read : goal.returns-in-Some-clause-read
returns-in-Some-clause-read c =
    fed_still c.args.self.now c.args.piece.now c.in-Some.fault
    (ap (λ (r : Reading). r.fault) (sym c.self.view_is) ∙ c.in-Some.is)

pub returns-in-Some-clause-full : goal.returns-in-Some-clause-full
returns-in-Some-clause-full c =
    let old = c.args.self.now in
    full_still old c.in-Some.fault
    (λ bytes taken. HaveReadFront old.form
    (read_front old.form (bytes ++ c.args.piece.now)).right taken old.said)
    (ap (λ (r : Reading). r.fault) (sym c.self.view_is) ∙ c.in-Some.is)

pub returns-in-Some-clause-kept : goal.returns-in-Some-clause-kept
returns-in-Some-clause-kept c = keeps_all c.args.self.now.said

pub returns-clause-read : goal.returns-clause-read
returns-clause-read c =
    let inside = c.self.inside in
    piece_read inside.form (said_of inside.state) (said_of c.read_piece-read.new.state)
    inside.kept.items c.read_piece-read.new.kept.items c.args.piece.now c.read_piece-read.result
    c.args.self.now inside.fault c.err-self-inside.result inside.is_finished c.self.view_is
    c.in_default.is (ap (λ (r : Reading). r.finished) c.self.view_is ∙ c.requires.open)
    c.err-self-inside.ensures.value c.read_piece-read.ensures.read

pub returns-clause-full : goal.returns-clause-full
returns-clause-full c =
    let inside = c.self.inside in
    piece_full inside.form (said_of inside.state) (said_of c.read_piece-read.new.state)
    inside.kept.items c.read_piece-read.new.kept.items c.args.self.now
    (opened inside.form (said_of inside.state) inside.kept.items c.args.self.now inside.fault
    inside.is_finished c.self.view_is c.in_default.is
    (ap (λ (r : Reading). r.finished) c.self.view_is ∙ c.requires.open))
    c.args.piece.now c.read_piece-read.result c.read_piece-read.ensures.read

pub returns-clause-kept : goal.returns-clause-kept
returns-clause-kept c =
    subst (λ (r : Reading). KeepsCycles r.said (said_of c.read_piece-read.new.state))
    c.self.view_is c.read_piece-read.ensures.cycles
