use Rattle.std.proofs.Common.{◌≡◌, ◌<◌, length, get_or, take, sym, subst}
use Rattle.std.proofs.lemmas.List.{take_more}
use Rattle.std.proofs.Math.ListN.{length-map}
use Rattle.sv_flat.specs.declared.signals.SigId.{SigId}
use Rattle.sv_graph.specs.Numbers.{numbers}
use Rattle.sv_graph.specs.Queues.{open_at, Settles, SettlesOne}
use Rattle.sv_graph.proofs.Differing.{fresh}
use Rattle.sv_graph.proofs.QueueFacts.{still_open, settle_more, number_at}
use Rattle.sv_graph.proofs.SignalLists.{no_signal, number_among}
use Rattle.sv_graph.proofs.queues.Queue.settle_all.Goals as goal

pub settle-requires-clause-within : goal.settle-requires-clause-within
settle-requires-clause-within c =
    let readers = c.args.readers.now in
    let i = c.loop-reader.reader-index in
    let x = get_or readers i no_signal in
    subst (λ n. x.0 < n) (sym c.loop-reader.invariant.count)
    (c.requires.within x.0 (number_among readers i c.loop-reader-test.true))

pub settle-requires-clause-some : goal.settle-requires-clause-some
settle-requires-clause-some c =
    let readers = c.args.readers.now in
    let i = c.loop-reader.reader-index in
    let x = get_or readers i no_signal in
    let inside = subst (λ n. i < n) (sym (length-map readers (λ (s : SigId). s.0)))
    c.loop-reader-test.true in
    let at = number_at readers i no_signal c.loop-reader-test.true in
    subst (λ n. 0 < n)
    (sym (subst (λ k. open_at c.loop-reader.self k ≡ open_at c.args.self.now k) at
    (still_open c.args.self.now c.loop-reader.self (take i (numbers readers))
    (get_or (numbers readers) i 0) c.loop-reader.invariant
    (fresh (numbers readers) i inside c.requires.differ))))
    (c.requires.some x.0 (number_among readers i c.loop-reader-test.true))

pub loop-reader-preserved : goal.loop-reader-preserved
loop-reader-preserved c =
    let readers = c.args.readers.now in
    let i = c.loop-reader.reader-index in
    let x = get_or readers i no_signal in
    let k = get_or (numbers readers) i 0 in
    let inside = subst (λ n. i < n) (sym (length-map readers (λ (s : SigId). s.0)))
    c.loop-reader-test.true in
    let at = number_at readers i no_signal c.loop-reader-test.true in
    let member = c.requires.within x.0 (number_among readers i c.loop-reader-test.true) in
    subst (Settles c.args.self.now c.settle.new.self) (sym (take_more (numbers readers) i 0 inside))
    (settle_more c.args.self.now c.loop-reader.self c.settle.new.self (take i (numbers readers)) k
    c.loop-reader.invariant
    (subst (SettlesOne c.loop-reader.self c.settle.new.self) (sym at) c.in_ok-settle.ensures)
    (fresh (numbers readers) i inside c.requires.differ)
    (subst (λ n. n < length c.loop-reader.self.counts.items) (sym at)
    (subst (λ n. x.0 < n) (sym c.loop-reader.invariant.count) member)))
