use Rattle.std.proofs.Common.{◌≡◌, true, [], drop, map, fold}
use Rattle.sv_flat.specs.ByNumber.{signal_forms, by_number, FitSignals}
use Rattle.sv_flat.specs.Runs.{put_piece}
use Rattle.sv_flat.specs.Views.{piece_form}
use Rattle.sv_flat.proofs.runs.put_pieces.Given as goal

-- what is left to be put leads to what all pieces lead to
abbrev pub invariant-loop-piece : goal.invariant-loop-piece
invariant-loop-piece l =
    let forms = signal_forms l.signals in
    let step = put_piece forms true l.right in
    ((fold step (by_number l.values, []) (map piece_form (drop l.piece-index l.pieces))).0
    ≡ (fold step (by_number l.initial.values, []) (map piece_form l.pieces)).0)
    × FitSignals forms l.values
