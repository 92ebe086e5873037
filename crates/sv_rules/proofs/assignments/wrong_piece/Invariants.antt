use Rattle.std.proofs.Common.{drop}
use Rattle.sv_flat.specs.Views.{design_of, process_kind}
use Rattle.sv_rules.specs.Pieces.{piece_forms}
use Rattle.sv_rules.proofs.WrongPieces.{PiecesSoFar}
use Rattle.sv_rules.proofs.assignments.wrong_piece.Given as goal

abbrev pub invariant-loop-piece : goal.invariant-loop-piece
invariant-loop-piece l =
    PiecesSoFar (design_of l.flat) (process_kind l.kind) l.blocking (piece_forms l.pieces)
    (piece_forms (drop l.piece-index l.pieces)) l.found l.before
