use Rattle.std.proofs.Common.{◌==◌, rules, tests, ◌∙◌}
use Rattle.std.proofs.lemmas.Iterator.{YieldsList-from_slice}
use Rattle.std.proofs.lemmas.Iterator.Search.{any_from_yields_List}
use Rattle.sv_flat.specs.declared.statements.Piece.{Piece}
use Rattle.sv_flat.specs.Design.{PieceForm}
use Rattle.sv_flat.specs.Views.{piece_form}
use Rattle.sv_obl.proofs.PieceFacts.{any_formed}
use Rattle.sv_obl.proofs.pieces.is_some_of.Goals as goal

pub returns : goal.returns
returns c =
    let test = λ (piece : PieceForm). piece.signal == c.args.target.0 in
    any_from_yields_List (λ (p : Piece). test (piece_form p)) _ _ c.any.result c.any.ensures.ran
    (YieldsList-from_slice c.args.pieces.now cc) (λ x b q k. search (rules, tests))
    ∙ any_formed piece_form test c.args.pieces.now
