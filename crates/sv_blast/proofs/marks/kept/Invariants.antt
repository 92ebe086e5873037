use Rattle.std.proofs.Common.{◌≡◌, filter, take}
use Rattle.sv_graph.specs.Marks.{is_marked}
use Rattle.sv_design.specs.Numbers.{numbers}
use Rattle.sv_blast.proofs.marks.kept.Given as goal

abbrev pub invariant-loop-signal : goal.invariant-loop-signal
invariant-loop-signal l =
    numbers l.found.items ≡ filter (is_marked l.table) (numbers (take l.signal-index l.signals))
