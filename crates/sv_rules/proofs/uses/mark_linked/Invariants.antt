use Rattle.std.proofs.Common.{ℕ, ◌==◌, map, drop}
use Rattle.std.specs.List.{list_any}
use Rattle.sv_flat.specs.Clocks.{links_in}
use Rattle.sv_flat.specs.Views.{design_of, process_form}
use Rattle.sv_rules.specs.Links.{links_in_of}
use Rattle.sv_graph.proofs.MarkFacts.{MarksSoFar}
use Rattle.sv_rules.proofs.uses.mark_linked.Given as goal

abbrev pub invariant-loop-process : goal.invariant-loop-process
invariant-loop-process l =
    MarksSoFar l.initial.table l.table (λ s.
    list_any (λ (pair : ℕ × ℕ). pair.0 == s) (links_in (design_of l.flat)))
    (λ s. list_any (λ (pair : ℕ × ℕ).
    pair.0 == s) (links_in_of (map process_form (drop l.process-index l.process-items))))
