use Rattle.std.proofs.Common.{◌≡◌, map, take}
use Rattle.sv_flat.specs.SignalLists.{system_signals, registers}
use Rattle.sv_flat.specs.Views.{design_of}
use Rattle.sv_flat.specs.Given.{given}
use Rattle.sv_sim_run.proofs.runners.started.Given as goal

abbrev pub invariant-loop-s : goal.invariant-loop-s
invariant-loop-s l =
    let flat = design_of l.design in
    l.values.items ≡ map (given (registers flat) l.start) (take l.s-index (system_signals flat))
