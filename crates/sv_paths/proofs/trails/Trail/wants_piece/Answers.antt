use Rattle.std.proofs.Common.{ℕ, ◌==◌, rules, tests, ◌∙◌}
use Rattle.std.specs.List.{list_any}
use Rattle.std.proofs.lemmas.Iterator.{YieldsList-from_slice}
use Rattle.std.proofs.lemmas.Iterator.Search.{any_from_yields_List}
use Rattle.sv_flat.specs.declared.statements.Piece.{Piece}
use Rattle.sv_flat.specs.Design.{PieceForm}
use Rattle.sv_flat.specs.Views.{piece_form}
use Rattle.sv_obl.specs.Views.{piece_forms}
use Rattle.sv_paths.specs.Trails.{wanted_signals}
use Rattle.sv_paths.specs.TrailViews.{trail_form}
use Rattle.sv_paths.proofs.NameFacts.{any_swapped}
use Rattle.sv_obl.proofs.PieceFacts.{any_formed}
use Rattle.sv_paths.proofs.trails.Trail.wants_piece.Goals as goal

pub returns : goal.returns
returns c =
    let ss = wanted_signals (trail_form c.args.self.now) in
    let test = λ (piece : PieceForm). list_any (λ (t : ℕ). piece.signal == t) ss in
    let pieces = c.args.pieces.now in
    any_from_yields_List (λ (p : Piece). test (piece_form p)) _ _ c.any.result c.any.ensures.ran
    (YieldsList-from_slice pieces cc) (λ x b q k. search (rules, tests))
    ∙ any_formed piece_form test pieces
    ∙ any_swapped (λ (piece : PieceForm) (t : ℕ). piece.signal == t) (piece_forms pieces) ss
