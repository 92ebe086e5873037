use Rattle.std.proofs.Common.{◌≡◌, take}
use Rattle.sv_flat.specs.ByNumber.{by_number, FitSignals}
use Rattle.sv_flat.specs.FlatSystem.{combinational_processes}
use Rattle.sv_flat.specs.Views.{design_of}
use Rattle.sv_event.proofs.RunFacts.{after_processes}
use Rattle.sv_event.proofs.runs.is_quiet.Given as goal

abbrev pub invariant-loop-k : goal.invariant-loop-k
invariant-loop-k l =
    let design = design_of l.design in
    FitSignals design.signals l.other
    × (by_number l.other ≡
    after_processes design (take l.k (combinational_processes design)) (by_number l.values))
