use Rattle.std.proofs.Common.{rules, tests, sym, ◌∙◌}
use Rattle.std.proofs.lemmas.Iterator.{YieldsList-from_slice}
use Rattle.std.proofs.lemmas.Iterator.Search.{all_from_yields_List}
use Rattle.std.proofs.lemmas.List.Folds.{list_all-map}
use Rattle.sv_flat.specs.declared.statements.Piece.{Piece}
use Rattle.sv_flat.specs.ByNumber.{signal_forms}
use Rattle.sv_flat.specs.Soundness.{piece_fits}
use Rattle.sv_flat.specs.Views.{piece_form, typed_tree}
use Rattle.sv_flat.proofs.soundness.do_pieces_fit.Goals as goal

pub returns : goal.returns
returns c =
    let test = piece_fits (signal_forms c.args.signals.now) (typed_tree c.args.value.now) in
    all_from_yields_List (λ (p : Piece). test (piece_form p)) _ _ c.all.result c.all.ensures.ran
    (YieldsList-from_slice c.args.pieces.now cc) (λ x b q k. search (rules, tests))
    ∙ sym (list_all-map test piece_form c.args.pieces.now)
