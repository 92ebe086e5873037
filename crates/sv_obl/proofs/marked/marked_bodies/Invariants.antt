use Rattle.std.proofs.Common.{take, map}
use Rattle.std.specs.List.{AllZip}
use Rattle.sv_flat.specs.ByNumber.{signal_forms}
use Rattle.sv_flat.specs.Views.{process_form}
use Rattle.sv_obl.specs.MarkedBodies.{IsMarkedBody}
use Rattle.sv_obl.proofs.marked.marked_bodies.Given as goal

-- those of the processes so far
abbrev pub invariant-loop-process : goal.invariant-loop-process
invariant-loop-process l =
    AllZip (IsMarkedBody (signal_forms l.signals)) (map process_form (take l.process-index l.processes))
    l.bodies.items
