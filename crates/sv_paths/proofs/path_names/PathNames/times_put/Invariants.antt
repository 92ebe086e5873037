use Rattle.std.proofs.Common.{◌≡◌, drop, fold}
use Rattle.sv_obl.specs.Views.{piece_forms}
use Rattle.sv_paths.specs.Trails.{with_times, times_put}
use Rattle.sv_paths.specs.TrailViews.{names_form}
use Rattle.sv_paths.proofs.path_names.PathNames.times_put.Given as goal

-- the pieces so far, and those that are left
abbrev pub invariant-loop-piece : goal.invariant-loop-piece
invariant-loop-piece l =
    let names = names_form l.self in
    fold (with_times names) l.times (piece_forms (drop l.piece-index l.pieces))
    ≡ times_put names (piece_forms l.pieces)
