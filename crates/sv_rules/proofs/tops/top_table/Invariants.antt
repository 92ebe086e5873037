use Rattle.sv_flat.specs.Processes.{is_top_input}
use Rattle.sv_flat.specs.Views.{design_of}
use Rattle.sv_graph.specs.Marks.{IsTable}
use Rattle.sv_rules.proofs.tops.top_table.Given as goal

abbrev pub invariant-loop-signal : goal.invariant-loop-signal
invariant-loop-signal l =
    IsTable l.signal-index l.tops.items (is_top_input (design_of l.flat))
