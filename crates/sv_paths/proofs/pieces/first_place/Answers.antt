use Rattle.std.proofs.Common.{◌≡◌, ◌==◌, rules, tests}
use Rattle.std.specs.Borrow.{Bor}
use Rattle.std.specs.Option.{option_map}
use Rattle.std.proofs.lemmas.Iterator.{YieldsList-from_slice}
use Rattle.std.proofs.lemmas.Iterator.Search.{find_from_yields_List}
use Rattle.sv_flat.specs.declared.statements.Piece.{Piece}
use Rattle.sv_flat.specs.Design.{PieceForm}
use Rattle.sv_flat.specs.Views.{piece_form}
use Rattle.sv_obl.proofs.PieceFacts.{first_part}
use Rattle.sv_paths.proofs.pieces.first_place.Goals as goal

pub returns : goal.returns
returns c =
    let test = λ (piece : PieceForm). piece.signal == c.args.target.0 in
    let place = λ (piece : PieceForm). piece.place in
    let placed : c.map.result
    ≡ option_map (λ (p : Bor Piece). place (piece_form p.now)) c.find.result =
    search (rules, tests) in
    first_part test place c.args.pieces.now c.find.result c.map.result
    (find_from_yields_List (λ (p : Piece). test (piece_form p)) _ _ c.find.result
    c.find.ensures.ran (YieldsList-from_slice c.args.pieces.now cc)
    (λ x b q k. search (rules, tests)))
    placed
