use Rattle.std.proofs.Common.{◌≡◌, take}
use Rattle.sv_flat.specs.ByNumber.{signal_forms, by_number, FitSignals}
use Rattle.sv_design.specs.Numbers.{numbers}
use Rattle.sv_flat.specs.Given.{with_given}
use Rattle.sv_sim.proofs.listed.put_listed.Given as goal

abbrev pub invariant-loop-k : goal.invariant-loop-k
invariant-loop-k l =
    (by_number l.values ≡
    with_given (take l.k (numbers l.listed)) l.given (by_number l.initial.values))
    × FitSignals (signal_forms l.signals) l.values
