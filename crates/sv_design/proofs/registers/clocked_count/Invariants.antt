use Rattle.std.proofs.Common.{◌≡◌, ◌≤◌, length, map, take}
use Rattle.std.specs.Prelude.{filter}
use Rattle.sv_flat.specs.Design.{ProcessForm}
use Rattle.sv_flat.specs.Processes.{is_clocked}
use Rattle.sv_flat.specs.Views.{process_form}
use Rattle.sv_design.proofs.registers.clocked_count.Given as goal

abbrev pub invariant-loop-process : goal.invariant-loop-process
invariant-loop-process l =
    (l.count ≡ length (filter (λ (p : ProcessForm). is_clocked p.kind)
    (map process_form (take l.process-index l.processes))))
    × (l.count ≤ l.process-index)
