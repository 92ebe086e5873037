use Rattle.std.proofs.Common.{take, map}
use Rattle.sv_flat.specs.Views.{process_form}
use Rattle.sv_obl.specs.IndexedBodies.{AreIndexed}
use Rattle.sv_obl.proofs.indexed.indexed_bodies.Given as goal

-- those of the processes so far
abbrev pub invariant-loop-process : goal.invariant-loop-process
invariant-loop-process l =
    AreIndexed (map process_form (take l.process-index l.processes)) l.bodies.items
