use Rattle.std.proofs.Common.{◌≡◌, length, map, drop}
use Rattle.std.specs.List.{list_any}
use Rattle.sv_flat.specs.Clocks.{has_edge, is_edge}
use Rattle.sv_flat.specs.Design.{ProcessForm}
use Rattle.sv_flat.specs.Views.{design_of, process_form}
use Rattle.sv_graph.proofs.MarkFacts.{MarksSoFar}
use Rattle.sv_rules.proofs.clocks.edges_of.Given as goal

abbrev pub invariant-loop-process : goal.invariant-loop-process
invariant-loop-process l = (length l.table.items ≡ length l.initial.table.items)
    × MarksSoFar l.initial.table.items l.table.items (is_edge (design_of l.flat))
    (λ s. list_any (λ (p : ProcessForm).
    has_edge s p.kind) (map process_form (drop l.process-index l.process-items)))
