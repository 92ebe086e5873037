use Rattle.std.proofs.Common.{◌≡◌, ◌==◌, ◌&&◌, slice_get, rules, tests, ap, ◌∙◌}
use Rattle.std.specs.Borrow.{Bor}
use Rattle.std.specs.Option.{option_map}
use Rattle.std.proofs.lemmas.Iterator.{YieldsList-from_slice}
use Rattle.std.proofs.lemmas.Iterator.Search.{find_from_yields_List}
use Rattle.sv_flat.specs.declared.statements.Piece.{Piece}
use Rattle.sv_flat.specs.ByNumber.{signal_forms}
use Rattle.sv_flat.specs.Design.{PieceForm}
use Rattle.sv_flat.specs.Soundness.{is_whole}
use Rattle.sv_flat.specs.Views.{piece_form}
use Rattle.sv_obl.specs.Views.{piece_forms}
use Rattle.sv_paths.proofs.NameFacts.{filter_both}
use Rattle.sv_obl.proofs.PieceFacts.{first_part}
use Rattle.sv_paths.proofs.trails.whole_of.Goals as goal

pub returns : goal.returns
returns c =
    let pick = λ (piece : PieceForm). piece.signal == c.args.signal.0 in
    let whole = is_whole (signal_forms c.args.signals.now) in
    let test = λ (piece : PieceForm). pick piece && whole piece in
    let from = λ (piece : PieceForm). piece.from in
    let pieces = c.args.pieces.now in
    let given : c.map.result
    ≡ option_map (λ (p : Bor Piece). from (piece_form p.now)) c.find.result =
    search (rules, tests) in
    first_part test from pieces c.find.result c.map.result
    (find_from_yields_List (λ (p : Piece). test (piece_form p)) _ _ c.find.result
    c.find.ensures.ran (YieldsList-from_slice pieces cc) (λ x b q k. search (rules, tests)))
    given
    ∙ ap (λ ps. option_map from (slice_get ps 0)) (filter_both pick whole (piece_forms pieces))
