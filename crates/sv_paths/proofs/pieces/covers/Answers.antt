use Rattle.std.proofs.Common.{◌==◌, ◌&&◌, rules, tests, ◌∙◌}
use Rattle.std.proofs.lemmas.Iterator.{YieldsList-from_slice}
use Rattle.std.proofs.lemmas.Iterator.Search.{any_from_yields_List}
use Rattle.sv_flat.specs.declared.statements.Piece.{Piece}
use Rattle.sv_flat.specs.ByNumber.{signal_forms}
use Rattle.sv_flat.specs.Design.{PieceForm}
use Rattle.sv_flat.specs.Soundness.{is_whole}
use Rattle.sv_flat.specs.Views.{piece_form}
use Rattle.sv_obl.specs.Views.{piece_forms}
use Rattle.sv_obl.proofs.PieceFacts.{any_formed, any_picked}
use Rattle.sv_paths.proofs.pieces.covers.Goals as goal

pub returns : goal.returns
returns c =
    let whole = is_whole (signal_forms c.args.signals.now) in
    let pick = λ (piece : PieceForm). piece.signal == c.args.target.0 in
    let pieces = c.args.pieces.now in
    any_from_yields_List (λ (p : Piece). pick (piece_form p) && whole (piece_form p)) _ _
    c.any.result c.any.ensures.ran (YieldsList-from_slice pieces cc)
    (λ x b q k. search (rules, tests))
    ∙ any_formed piece_form (λ piece. pick piece && whole piece) pieces
    ∙ any_picked pick whole (piece_forms pieces)
