use Rattle.std.proofs.Common.{◌≡◌, drop, map, fold}
use Rattle.sv_flat.specs.Views.{piece_form}
use Rattle.sv_encoding.specs.Bodies.{with_piece_word}
use Rattle.sv_blast.specs.FollowedWords.{forms_in, follows_in}
use Rattle.sv_blast.specs.WordTables.{words_of}
use Rattle.sv_blast.proofs.followed.Followed.put_pieces.Given as goal

-- what is left to be put leads to what all pieces lead to
abbrev pub invariant-loop-piece : goal.invariant-loop-piece
invariant-loop-piece l =
    fold (with_piece_word (forms_in l.self) (follows_in l.self) l.right) (words_of l.words)
    (map piece_form (drop l.piece-index l.pieces))
    ≡ fold (with_piece_word (forms_in l.self) (follows_in l.self) l.right) (words_of l.fn.words)
    (map piece_form l.pieces)
