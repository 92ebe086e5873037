use Rattle.std.proofs.Common.{◌&&◌, ◌==◌, nat_lt}
use Rattle.sv_graph.specs.BitGraphs.{size, IsOver, GainsEdges}
use Rattle.sv_graph.specs.Marks.{is_marked}
use Rattle.sv_design.proofs.reads.add_registers.Given as goal

abbrev pub invariant-loop-s : goal.invariant-loop-s
invariant-loop-s l = IsOver (size l.initial.graph) l.graph
    × GainsEdges l.initial.graph l.graph (λ a b.
    nat_lt b l.s && (is_marked l.registers b && (b == a)))
