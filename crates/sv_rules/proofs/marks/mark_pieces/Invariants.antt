use Rattle.std.proofs.Common.{length, drop}
use Rattle.sv_rules.specs.Pieces.{piece_forms}
use Rattle.sv_rules.specs.DriverTables.{AreTargets, assigned_in}
use Rattle.sv_graph.proofs.MarkFacts.{MarksSoFar}
use Rattle.sv_rules.proofs.marks.mark_pieces.Given as goal

abbrev pub invariant-loop-piece : goal.invariant-loop-piece
invariant-loop-piece l =
    let left = piece_forms (drop l.piece-index l.pieces) in
    AreTargets (length l.initial.table) left
    × MarksSoFar l.initial.table l.table (assigned_in (piece_forms l.pieces)) (assigned_in left)
