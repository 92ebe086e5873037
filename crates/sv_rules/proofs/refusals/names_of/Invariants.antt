use Rattle.std.proofs.Common.{◌≡◌, take}
use Rattle.sv_flat.specs.Views.{design_of}
use Rattle.sv_graph.specs.Numbers.{numbers}
use Rattle.sv_rules.specs.Refusals.{names_at}
use Rattle.sv_rules.proofs.refusals.names_of.Given as goal

abbrev pub invariant-loop-signal : goal.invariant-loop-signal
invariant-loop-signal l =
    l.names.items ≡ names_at (design_of l.flat) (numbers (take l.signal-index l.signals))
