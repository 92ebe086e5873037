use Rattle.std.proofs.Common.{◌≡◌, true, false, drop, sym, ap₂, ◌∙◌}
use Rattle.sv_flat.specs.declared.statements.Piece.{Piece}
use Rattle.sv_flat.specs.Sets.{holds}
use Rattle.sv_flat.specs.Views.{piece_form}
use Rattle.sv_obl.specs.Wanted.{copy_of}
use Rattle.sv_obl.proofs.PathLists.{cond_true, cond_false}
use Rattle.sv_circuits.specs.Words.{Word, replaced_word}
use Rattle.sv_encoding.specs.Bodies.{with_word, with_piece_word}
use Rattle.sv_encoding.specs.Expressions.{Words}
use Rattle.sv_blast.specs.declared.followed.Followed.{Followed}
use Rattle.sv_blast.specs.FollowedWords.{forms_in, follows_in}
use Rattle.sv_blast.specs.WordTables.{words_of}
use Rattle.sv_blast.proofs.FollowedLists.{holds_marked}
use Rattle.sv_blast.proofs.followed.Followed.put_piece.Goals as goal

module _ (self : Followed) (piece : Piece) (right : Word) (ws : Words) where
  -- the words with the piece in the word of its signal's copy
  abbrev put : Words
  put =
      let copy = copy_of (forms_in self) piece.signal.0 in
      with_word copy (replaced_word piece.high piece.low (ws copy) (drop piece.from right)) ws

  passed_over : holds (follows_in self) piece.signal.0 ≡ false →
      with_piece_word (forms_in self) (follows_in self) right ws (piece_form piece) ≡ ws
  passed_over = cond_false (holds (follows_in self) piece.signal.0) put ws

  put_in : holds (follows_in self) piece.signal.0 ≡ true →
      with_piece_word (forms_in self) (follows_in self) right ws (piece_form piece) ≡ put
  put_in = cond_true (holds (follows_in self) piece.signal.0) put ws

pub returns-then-not-has_mark : goal.returns-then-not-has_mark
returns-then-not-has_mark c =
    passed_over c.args.self.now c.args.piece.now c.args.right.now (words_of c.args.words.now)
    (holds_marked c.args.self.now.follows.now c.args.piece.now.signal.0 ∙ sym c.has_mark.ensures
    ∙ c.if-not-has_mark.true)

pub returns : goal.returns
returns c =
    let ws = words_of c.args.words.now in
    put_in c.args.self.now c.args.piece.now c.args.right.now ws
    (holds_marked c.args.self.now.follows.now c.args.piece.now.signal.0 ∙ sym c.has_mark.ensures
    ∙ c.if-not-has_mark.false)
    ∙ ap₂ (λ k w. with_word k w ws) (sym c.copy_of.ensures) (sym c.in_ok-word.ensures)
    ∙ sym c.in_ok-put.ensures
