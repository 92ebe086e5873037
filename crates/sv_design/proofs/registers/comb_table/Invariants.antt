use Rattle.sv_flat.specs.Reads.{is_combinational}
use Rattle.sv_flat.specs.Views.{design_of}
use Rattle.sv_graph.specs.Marks.{IsTable}
use Rattle.sv_design.proofs.registers.comb_table.Given as goal

abbrev pub invariant-loop-s : goal.invariant-loop-s
invariant-loop-s l = IsTable l.s l.table.items (is_combinational (design_of l.flat))
