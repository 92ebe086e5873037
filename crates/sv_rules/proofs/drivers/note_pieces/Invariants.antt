use Rattle.std.proofs.Common.{◌≡◌, length, drop}
use Rattle.sv_rules.specs.Pieces.{piece_forms}
use Rattle.sv_rules.specs.DriverTables.{AreTargets, assigned_in}
use Rattle.sv_rules.proofs.NoteFacts.{NotesSoFar}
use Rattle.sv_rules.proofs.drivers.note_pieces.Given as goal

abbrev pub invariant-loop-piece : goal.invariant-loop-piece
invariant-loop-piece l =
    let n = length l.initial.drivers.first.items in
    let left = piece_forms (drop l.piece-index l.pieces) in
    (length l.drivers.first.items ≡ n) × (length l.drivers.second.items ≡ n) × AreTargets n left
    × NotesSoFar n l.driver l.initial.drivers l.drivers (assigned_in (piece_forms l.pieces))
    (assigned_in left)
