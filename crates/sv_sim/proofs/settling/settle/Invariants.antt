use Rattle.std.specs.Prelude.{IfSome}
use Rattle.sv_flat.specs.ByNumber.{by_number, FitSignals}
use Rattle.sv_flat.specs.Views.{design_of}
use Rattle.sv_design.specs.Numbers.{numbers}
use Rattle.sv_sim.specs.Settling.{FrontIsStable, OwnIsStable, SameOthers}
use Rattle.sv_sim.proofs.settling.settle.Given as goal

abbrev pub invariant-loop-k : goal.invariant-loop-k
invariant-loop-k l =
    let design = design_of l.design in
    FitSignals design.signals l.values
    × SameOthers design (by_number l.values) (by_number l.initial.values)
    × FrontIsStable design (numbers l.plan) (by_number l.values) l.k
    × IfSome l.last (OwnIsStable design (by_number l.values))
