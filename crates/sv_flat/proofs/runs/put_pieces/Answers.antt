use Rattle.std.proofs.Common.{◌==◌, ◌+◌, true, [], map, fold, drop, sym, ap, ◌∙◌}
use Rattle.sv_system.specs.System.{put}
use Rattle.sv_flat.specs.ByNumber.{signal_forms, by_number}
use Rattle.sv_flat.specs.Runs.{put_piece}
use Rattle.sv_flat.specs.Views.{piece_form}
use Rattle.sv_flat.proofs.NumberedRuns.{by_number-set, fit-set, piece_of, piece_known, piece_inside}
use Rattle.sv_flat.proofs.NumberedRuns.{piece_has_value, pieces_at}
use Rattle.sv_flat.proofs.runs.put_pieces.Goals as goal

pub bounds-values-place : goal.bounds-values-place
bounds-values-place c =
    piece_has_value c.args.signals.now c.requires.inside.0 c.args.pieces.now
    c.loop-piece.piece-index c.loop-piece-test.true c.requires.inside.1 c.loop-piece.values
    c.loop-piece.invariant.1

pub bounds-values-place-in-loop-piece : goal.bounds-values-place-in-loop-piece
bounds-values-place-in-loop-piece c =
    piece_has_value c.args.signals.now c.requires.inside.0 c.args.pieces.now
    c.loop-piece.piece-index c.loop-piece-test.true c.requires.inside.1 c.loop-piece.values
    c.loop-piece.invariant.1

pub with_piece-requires-clause-known : goal.with_piece-requires-clause-known
with_piece-requires-clause-known c =
    piece_known c.args.signals.now c.requires.inside.0 c.args.pieces.now
    c.loop-piece.piece-index c.loop-piece-test.true c.requires.inside.1

pub with_piece-requires-clause-order : goal.with_piece-requires-clause-order
with_piece-requires-clause-order c =
    (piece_inside c.args.signals.now c.requires.inside.0 c.args.pieces.now
    c.loop-piece.piece-index c.loop-piece-test.true c.requires.inside.1).0

pub with_piece-requires-clause-inside : goal.with_piece-requires-clause-inside
with_piece-requires-clause-inside c =
    (piece_inside c.args.signals.now c.requires.inside.0 c.args.pieces.now
    c.loop-piece.piece-index c.loop-piece-test.true c.requires.inside.1).1

pub loop-piece-preserved : goal.loop-piece-preserved
loop-piece-preserved c =
    let forms = signal_forms c.args.signals.now in
    let i = c.loop-piece.piece-index in
    let values = c.loop-piece.values in
    let k = (piece_of c.args.pieces.now i).signal.0 in
    let step = put_piece forms true c.args.right in
    let left = map piece_form (drop (i + 1) c.args.pieces.now) in
    let inside = piece_has_value c.args.signals.now c.requires.inside.0 c.args.pieces.now i
    c.loop-piece-test.true c.requires.inside.1 values c.loop-piece.invariant.1 in (
      ap (λ e. (fold step (e, []) left).0)
          (by_number-set values k c.with_piece.result inside
          ∙ ap (λ x. put ◌==◌ k x (by_number values)) c.with_piece.ensures.value)
          ∙ sym (ap (λ ps. (fold step (by_number values, []) ps).0)
          (pieces_at c.args.pieces.now i c.loop-piece-test.true))
          ∙ c.loop-piece.invariant.0,
      fit-set forms values k c.with_piece.result c.loop-piece.invariant.1
          c.with_piece.ensures.range,
    )
