use Rattle.std.proofs.Common.{◌≡◌, map, drop}
use Rattle.sv_flat.specs.Clocks.{lists_pair}
use Rattle.sv_flat.specs.Views.{process_form}
use Rattle.sv_graph.specs.Graphs.{size, has_edge, IsWhole}
use Rattle.sv_rules.specs.Links.{edges_of}
use Rattle.sv_graph.proofs.GraphFacts.{EdgesSoFar}
use Rattle.sv_rules.proofs.links.add_edges.Given as goal

abbrev pub invariant-loop-process : goal.invariant-loop-process
invariant-loop-process l = (size l.graph ≡ size l.initial.graph)
    × EdgesSoFar (has_edge l.initial.graph) (has_edge l.graph)
    (lists_pair (edges_of l.edges (map process_form l.process-items)))
    (lists_pair (edges_of l.edges (map process_form (drop l.process-index l.process-items))))
    × (IsWhole l.initial.graph → IsWhole l.graph)
