use Rattle.std.proofs.Common.{◌≡◌, ◌++◌, drop, map}
use Rattle.sv_flat.specs.Design.{PieceForm}
use Rattle.sv_obl.specs.Views.{piece_forms}
use Rattle.sv_obl.proofs.indexed.push_pieces.Given as goal

-- the signals so far, and those that are left
abbrev pub invariant-loop-piece : goal.invariant-loop-piece
invariant-loop-piece l =
    let signal = λ (piece : PieceForm). piece.signal in
    l.names.items ++ map signal (piece_forms (drop l.piece-index l.pieces))
    ≡ l.initial.names.items ++ map signal (piece_forms l.pieces)
