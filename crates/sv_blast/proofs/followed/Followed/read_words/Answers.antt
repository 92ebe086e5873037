use Rattle.std.proofs.Common.{◌+◌, drop, get_or, inl, ap, ◌∙◌}
use Rattle.sv_design.specs.Numbers.{numbers}
use Rattle.sv_encoding.specs.Bodies.{with_word}
use Rattle.sv_blast.specs.WordTables.{words_of}
use Rattle.sv_blast.proofs.FollowedLoops.{read_more, read_all}
use Rattle.sv_blast.proofs.SignalTurns.{none, numbers_turn, numbers_end}
use Rattle.sv_blast.proofs.followed.Followed.read_words.Goals as goal

pub loop-signal-init : goal.loop-signal-init
loop-signal-init c = λ t at. inl at

pub loop-signal-preserved : goal.loop-signal-preserved
loop-signal-preserved c =
    let reads = c.args.self.now.reads.now in
    let i = c.loop-signal.signal-index in
    let s = (get_or reads i none).0 in
    read_more (numbers reads) _ (numbers (drop (i + 1) reads)) s (words_of c.loop-signal.own) _
    (words_of c.args.words.now) c.loop-signal.invariant
    (numbers_turn reads i c.loop-signal-test.true)
    (c.in_ok-put.ensures
    ∙ ap (λ w. with_word s w (words_of c.loop-signal.own)) (c.in_ok-copied.ensures ∙ c.word.ensures))

pub returns : goal.returns
returns c =
    let reads = c.args.self.now.reads.now in
    read_all (numbers reads) _ (words_of c.loop-signal.own) (words_of c.args.words.now)
    c.loop-signal.invariant (numbers_end reads c.loop-signal.signal-index c.loop-signal-test.false)
