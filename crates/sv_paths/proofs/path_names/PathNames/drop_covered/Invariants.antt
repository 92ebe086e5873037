use Rattle.std.proofs.Common.{◌≡◌, drop}
use Rattle.sv_flat.specs.ByNumber.{signal_forms}
use Rattle.sv_obl.specs.Views.{piece_forms}
use Rattle.sv_paths.specs.Trails.{without_covered}
use Rattle.sv_paths.specs.TrailViews.{names_form}
use Rattle.sv_paths.proofs.path_names.PathNames.drop_covered.Given as goal

-- what is left once the other pieces are gone through is what all leave
abbrev pub invariant-loop-piece : goal.invariant-loop-piece
invariant-loop-piece l =
    let forms = signal_forms l.signals in
    without_covered forms (names_form l.self) (piece_forms (drop l.piece-index l.pieces))
    ≡ without_covered forms (names_form l.initial.self) (piece_forms l.pieces)
