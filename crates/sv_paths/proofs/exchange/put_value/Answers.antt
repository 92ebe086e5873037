use Rattle.std.proofs.Common.{ℕ, ◌+◌, fold, sym, ap, ◌∙◌}
use Rattle.std.proofs.lemmas.List.{length-map}
use Rattle.sv_flat.specs.ByNumber.{signal_forms}
use Rattle.sv_flat.specs.Design.{TypedTree, typed, read}
use Rattle.sv_flat.specs.Values.{signal_of, signal_width}
use Rattle.sv_flat.specs.Views.{signal_form, piece_form, typed_tree}
use Rattle.sv_flat.proofs.NumberedRuns.{no_piece}
use Rattle.sv_obl.specs.Views.{piece_forms}
use Rattle.sv_obl.specs.Wanted.{with_piece_put, put_value}
use Rattle.sv_paths.proofs.ExchangeFacts.{words_at}
use Rattle.sv_paths.proofs.NameFacts.{next_formed}
use Rattle.sv_paths.proofs.exchange.put_value.Goals as goal

pub loop-piece-init : goal.loop-piece-init
loop-piece-init c =
    let forms = signal_forms c.args.signals.now in
    let right = typed_tree c.args.right.now in
    let s = c.args.wanted.signal.0 in
    let named : ℕ → TypedTree = λ t.
    typed (signal_width forms s) (signal_of forms s).signed (read t c.args.wanted.place) in
    ap (λ e. fold (with_piece_put forms right s) e (piece_forms c.args.pieces.now))
    (c.of_signal-value.ensures ∙ ap named (c.requires.wanted
    ∙ ap (λ n. n + s) (sym (length-map c.args.signals.now signal_form))))

pub with_piece-requires-clause-ordered : goal.with_piece-requires-clause-ordered
with_piece-requires-clause-ordered c =
    (words_at c.args.pieces.now c.loop-piece.piece-index no_piece c.loop-piece-test.true
    c.requires.pieces).0

pub with_piece-requires-clause-high : goal.with_piece-requires-clause-high
with_piece-requires-clause-high c =
    (words_at c.args.pieces.now c.loop-piece.piece-index no_piece c.loop-piece-test.true
    c.requires.pieces).1

pub with_piece-requires-clause-from : goal.with_piece-requires-clause-from
with_piece-requires-clause-from c =
    (words_at c.args.pieces.now c.loop-piece.piece-index no_piece c.loop-piece-test.true
    c.requires.pieces).2

pub loop-piece-preserved : goal.loop-piece-preserved
loop-piece-preserved c =
    let forms = signal_forms c.args.signals.now in
    let right = typed_tree c.args.right.now in
    let s = c.args.wanted.signal.0 in
    next_formed piece_form (with_piece_put forms right s) c.args.pieces.now
    c.loop-piece.piece-index _ (typed_tree c.loop-piece.value) (typed_tree c.in_ok-value.value)
    (put_value forms (piece_forms c.args.pieces.now) right s c.args.wanted.place)
    c.loop-piece-test.true c.in_ok-value.ensures c.loop-piece.invariant
