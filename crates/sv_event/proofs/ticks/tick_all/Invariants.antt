use Rattle.std.proofs.Common.{◌≡◌, take}
use Rattle.sv_flat.specs.ByNumber.{by_number, FitSignals}
use Rattle.sv_flat.specs.Schedules.{after_tick}
use Rattle.sv_flat.specs.Views.{design_of}
use Rattle.sv_event.proofs.ticks.tick_all.Given as goal

abbrev pub invariant-loop-k : goal.invariant-loop-k
invariant-loop-k l =
    let design = design_of l.design in
    FitSignals design.signals l.next
    × (by_number l.next ≡ after_tick design (take l.k-index l.order) (by_number l.values))
