use Rattle.std.proofs.Common.{◌≡◌, ◌++◌, map, drop}
use Rattle.sv_flat.specs.Clocks.{processes_of}
use Rattle.sv_flat.specs.Views.{design_of, process_form}
use Rattle.sv_rules.specs.DriverTables.{kept_of}
use Rattle.sv_design.proofs.processes.kept_processes.Given as goal

abbrev pub invariant-loop-process : goal.invariant-loop-process
invariant-loop-process l =
    let design = design_of l.flat in
    processes_of design ≡ map process_form l.kept.items
    ++ kept_of design (map process_form (drop l.process-index l.process-items))
