use Rattle.std.proofs.Common.{◌≡◌, take}
use Rattle.sv_flat.specs.ByNumber.{by_number, FitSignals}
use Rattle.sv_flat.specs.Schedules.{after_schedule}
use Rattle.sv_flat.specs.Views.{design_of}
use Rattle.sv_event.proofs.runs.run_all.Given as goal

abbrev pub invariant-loop-k : goal.invariant-loop-k
invariant-loop-k l =
    let design = design_of l.design in
    FitSignals design.signals l.values
    × (by_number l.values ≡
    after_schedule design (take l.k l.schedule) (by_number l.initial.values))
