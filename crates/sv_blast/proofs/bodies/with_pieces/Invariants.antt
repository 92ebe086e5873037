use Rattle.std.proofs.Common.{◌≡◌, drop, map, fold}
use Rattle.sv_flat.specs.Views.{piece_form}
use Rattle.sv_blast.specs.TargetWords.{with_piece_of}
use Rattle.sv_blast.proofs.bodies.with_pieces.Given as goal

-- what is left to be put leads to what all pieces lead to
abbrev pub invariant-loop-piece : goal.invariant-loop-piece
invariant-loop-piece l =
    fold (with_piece_of l.target.0 l.right) l.word.items (map piece_form (drop l.piece-index l.pieces))
    ≡ fold (with_piece_of l.target.0 l.right) l.fn.word.items (map piece_form l.pieces)
