use Rattle.std.proofs.Common.{◌≡◌, ◌≤◌, ◌++◌, List, length, map, drop}
use Rattle.sv_flat.specs.Clocks.{processes_of}
use Rattle.sv_flat.specs.Design.{ProcessForm}
use Rattle.sv_flat.specs.Views.{design_of, process_form}
use Rattle.sv_rules.specs.DriverTables.{AreDrivers, entries, kept_of}
use Rattle.sv_rules.proofs.drivers.drivers_of.Given as goal

abbrev pub invariant-loop-process : goal.invariant-loop-process
invariant-loop-process l =
    let design = design_of l.flat in
    (ps : List ProcessForm) × (l.kept ≤ l.process-index) × (length ps ≡ l.kept)
    × (processes_of design ≡
    ps ++ kept_of design (map process_form (drop l.process-index l.process-items)))
    × AreDrivers (length l.flat.signals.items) l.drivers (entries 0 ps)
