use Rattle.std.proofs.Common.{not}
use Rattle.sv_flat.specs.Clocks.{is_clock}
use Rattle.sv_flat.specs.Views.{design_of}
use Rattle.sv_graph.specs.Marks.{IsTable}
use Rattle.sv_design.proofs.signal_lists.seen_of.Given as goal

abbrev pub invariant-loop-s : goal.invariant-loop-s
invariant-loop-s l = IsTable l.s l.table.items (λ s. not (is_clock (design_of l.fn.flat) s))
