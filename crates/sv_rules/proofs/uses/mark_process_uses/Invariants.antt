use Rattle.std.proofs.Common.{map, drop}
use Rattle.std.specs.List.{list_any}
use Rattle.sv_flat.specs.Clocks.{uses_as_signal}
use Rattle.sv_flat.specs.Views.{design_of, process_form}
use Rattle.sv_graph.proofs.MarkFacts.{MarksSoFar}
use Rattle.sv_rules.proofs.uses.mark_process_uses.Given as goal

abbrev pub invariant-loop-process : goal.invariant-loop-process
invariant-loop-process l =
    let test = uses_as_signal (design_of l.flat) in
    MarksSoFar l.initial.table l.table (λ s. list_any (test s) (design_of l.flat).processes)
    (λ s. list_any (test s) (map process_form (drop l.process-index l.process-items)))
