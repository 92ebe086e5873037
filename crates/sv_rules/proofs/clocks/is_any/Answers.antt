use Rattle.std.proofs.Common.{◌≡◌, ◌||◌, Bool, false, List, [], ◌∷◌, get_or, refl, ap, ◌∙◌, rules}
use Rattle.std.proofs.Common.{tests}
use Rattle.std.specs.List.{list_any}
use Rattle.std.proofs.lemmas.Iterator.{YieldsList-from_slice}
use Rattle.std.proofs.lemmas.Iterator.Search.{any_from_yields_List}
use Rattle.sv_flat.specs.declared.statements.Piece.{Piece}
use Rattle.sv_flat.specs.Design.{PieceForm}
use Rattle.sv_flat.specs.Views.{piece_form}
use Rattle.sv_rules.specs.Pieces.{piece_forms}
use Rattle.sv_rules.proofs.clocks.is_any.Goals as goal

any_formed : (test : PieceForm → Bool) (pieces : List Piece)
    → list_any (λ (p : Piece). test (piece_form p)) pieces ≡ list_any test (piece_forms pieces)
any_formed test [] = refl
any_formed test (p ∷ pieces) = ap (λ b. test (piece_form p) || b) (any_formed test pieces)

pub returns : goal.returns
returns c =
    let test = λ (p : PieceForm). get_or c.args.table.now p.signal false in
    any_from_yields_List (λ (p : Piece). test (piece_form p)) _ _ c.any.result c.any.ensures.ran
    (YieldsList-from_slice c.args.pieces.now cc) (λ x b q k. search (rules, tests))
    ∙ any_formed test c.args.pieces.now
