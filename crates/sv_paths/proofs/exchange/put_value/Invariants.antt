use Rattle.std.proofs.Common.{◌≡◌, drop, fold}
use Rattle.sv_flat.specs.ByNumber.{signal_forms}
use Rattle.sv_flat.specs.Views.{typed_tree}
use Rattle.sv_obl.specs.Views.{piece_forms}
use Rattle.sv_obl.specs.Wanted.{with_piece_put, put_value}
use Rattle.sv_paths.proofs.exchange.put_value.Given as goal

-- the pieces that are left, put where those before them are
abbrev pub invariant-loop-piece : goal.invariant-loop-piece
invariant-loop-piece l =
    let signals = signal_forms l.signals in
    let right = typed_tree l.right in
    fold (with_piece_put signals right l.fn.wanted.signal.0) (typed_tree l.value)
    (piece_forms (drop l.piece-index l.pieces))
    ≡ put_value signals (piece_forms l.pieces) right l.fn.wanted.signal.0 l.fn.wanted.place
