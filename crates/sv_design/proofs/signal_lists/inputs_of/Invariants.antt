use Rattle.std.proofs.Common.{not, ◌&&◌}
use Rattle.sv_flat.specs.Clocks.{is_clock}
use Rattle.sv_flat.specs.Processes.{is_top_input}
use Rattle.sv_flat.specs.Views.{design_of}
use Rattle.sv_graph.specs.Marks.{IsTable}
use Rattle.sv_design.proofs.signal_lists.inputs_of.Given as goal

abbrev pub invariant-loop-s : goal.invariant-loop-s
invariant-loop-s l =
    IsTable l.s l.table.items (λ s.
    is_top_input (design_of l.flat) s && not (is_clock (design_of l.flat) s))
