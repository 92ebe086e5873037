use Rattle.std.proofs.Common.{◌+◌, min, ap, ◌∙◌}
use Rattle.sv_flat.specs.Views.{piece_form}
use Rattle.sv_obl.specs.Views.{piece_forms}
use Rattle.sv_paths.specs.Trails.{with_times, times_put}
use Rattle.sv_paths.specs.TrailViews.{names_form}
use Rattle.sv_paths.proofs.NameFacts.{next_formed}
use Rattle.sv_paths.proofs.path_names.PathNames.times_put.Goals as goal

pub loop-piece-preserved : goal.loop-piece-preserved
loop-piece-preserved c =
    let names = names_form c.args.self.now in
    next_formed piece_form (with_times names) c.args.pieces.now c.loop-piece.piece-index _
    c.loop-piece.times c.sum-times.result (times_put names (piece_forms c.args.pieces.now))
    c.loop-piece-test.true
    (c.sum-times.ensures ∙ ap (λ n. min (c.loop-piece.times + n) 65537) c.times.ensures)
    c.loop-piece.invariant
