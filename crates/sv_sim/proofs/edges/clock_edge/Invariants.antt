use Rattle.std.proofs.Common.{◌≡◌}
use Rattle.sv_flat.specs.ByNumber.{by_number, FitSignals}
use Rattle.sv_flat.specs.FlatSystem.{after_edge}
use Rattle.sv_flat.specs.Views.{design_of}
use Rattle.sv_sim.specs.Settling.{clocked_before}
use Rattle.sv_sim.proofs.edges.clock_edge.Given as goal

abbrev pub invariant-loop-place : goal.invariant-loop-place
invariant-loop-place l =
    let design = design_of l.design in
    FitSignals design.signals l.next
    × (by_number l.next ≡ after_edge design (clocked_before design l.place) (by_number l.values))
