use Rattle.std.proofs.Common.{rules, tests, ◌∙◌}
use Rattle.std.proofs.lemmas.Iterator.{YieldsList-from_slice}
use Rattle.std.proofs.lemmas.Iterator.Search.{any_from_yields_List}
use Rattle.sv_flat.specs.declared.statements.Piece.{Piece}
use Rattle.sv_flat.specs.Design.{PieceForm}
use Rattle.sv_flat.specs.Views.{piece_form}
use Rattle.sv_graph.specs.Marks.{is_marked}
use Rattle.sv_obl.proofs.PieceFacts.{any_formed}
use Rattle.sv_blast.proofs.followed.Followed.has_piece.Goals as goal

pub returns : goal.returns
returns c =
    let marked = is_marked c.args.self.now.follows.now in
    any_from_yields_List (λ (piece : Piece). marked piece.signal.0) _ _ c.any.result
    c.any.ensures.ran (YieldsList-from_slice c.args.pieces.now cc)
    (λ x b q k. search (rules, tests))
    ∙ any_formed piece_form (λ (piece : PieceForm). marked piece.signal) c.args.pieces.now
