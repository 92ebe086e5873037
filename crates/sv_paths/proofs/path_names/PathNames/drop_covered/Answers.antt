use Rattle.sv_flat.specs.ByNumber.{signal_forms}
use Rattle.sv_flat.specs.Views.{piece_form}
use Rattle.sv_obl.specs.Views.{piece_forms}
use Rattle.sv_paths.specs.Trails.{without_piece, without_covered}
use Rattle.sv_paths.specs.TrailViews.{names_form}
use Rattle.sv_paths.proofs.NameFacts.{next_formed}
use Rattle.sv_paths.proofs.path_names.PathNames.drop_covered.Goals as goal

pub loop-piece-preserved : goal.loop-piece-preserved
loop-piece-preserved c =
    let forms = signal_forms c.args.signals.now in
    next_formed piece_form (without_piece forms) c.args.pieces.now c.loop-piece.piece-index _
    (names_form c.loop-piece.self) (names_form c.drop_piece.new.self)
    (without_covered forms (names_form c.args.self.now) (piece_forms c.args.pieces.now))
    c.loop-piece-test.true c.drop_piece.ensures c.loop-piece.invariant
