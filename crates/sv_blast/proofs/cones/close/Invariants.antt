use Rattle.std.proofs.Common.{◌≤◌, List, ℕ, length}
use Rattle.sv_flat.specs.Sets.{holds}
use Rattle.sv_flat.specs.Views.{design_of}
use Rattle.sv_graph.specs.Marks.{is_marked, IsTable}
use Rattle.sv_blast.specs.NamedMarks.{AreBelow}
use Rattle.sv_blast.proofs.ClosedCones.{IsClosedBut}
use Rattle.sv_blast.proofs.cones.close.Given as goal

abbrev pub invariant-loop-left : goal.invariant-loop-left
invariant-loop-left l =
    (l.left ≤ length l.order)
    × ((starts : List ℕ) → AreBelow (length l.design.signals.items) starts →
    IsTable (length l.design.signals.items) l.initial.table (holds starts) →
    IsClosedBut (design_of l.design) starts l.left (is_marked l.table))

abbrev pub decreases-loop-left : goal.decreases-loop-left
decreases-loop-left l = l.left
