use Rattle.std.proofs.Common.{length, map, drop}
use Rattle.sv_flat.specs.Views.{design_of, process_form}
use Rattle.sv_design.specs.Feeds.{feeds_in}
use Rattle.sv_graph.specs.BitGraphs.{has_edge, IsOver}
use Rattle.sv_graph.proofs.GraphFacts.{EdgesSoFar}
use Rattle.sv_design.proofs.reads.readers_of.Given as goal

abbrev pub invariant-loop-process : goal.invariant-loop-process
invariant-loop-process l =
    let signals = (design_of l.flat).signals in
    IsOver (length l.flat.signals.items) l.graph
    × EdgesSoFar (has_edge l.initial.graph) (has_edge l.graph)
    (feeds_in signals l.earlier (map process_form l.processes))
    (feeds_in signals l.earlier (map process_form (drop l.process-index l.processes)))
