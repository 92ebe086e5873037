use Rattle.std.proofs.Common.{◌==◌, rules, tests, ◌∙◌}
use Rattle.std.proofs.lemmas.Iterator.{YieldsList-from_slice}
use Rattle.std.proofs.lemmas.Iterator.Consumers.{count_from_yields_List, YieldsList-from_filter}
use Rattle.sv_flat.specs.declared.statements.Piece.{Piece}
use Rattle.sv_flat.specs.Design.{PieceForm}
use Rattle.sv_flat.specs.Views.{piece_form}
use Rattle.sv_obl.proofs.PieceFacts.{count_formed}
use Rattle.sv_paths.proofs.pieces.count_of.Goals as goal

pub returns : goal.returns
returns c =
    let test = λ (piece : PieceForm). piece.signal == c.args.target.0 in
    let pieces = c.args.pieces.now in
    count_from_yields_List c.filter.result _ c.count.ensures.ran
    (YieldsList-from_filter _ (λ (p : Piece). test (piece_form p)) (YieldsList-from_slice pieces cc)
    c.filter.ensures.closure (λ x b q k. search (rules, tests)))
    ∙ count_formed piece_form test pieces
