use Rattle.std.proofs.Common.{map, drop}
use Rattle.std.specs.List.{list_any}
use Rattle.sv_flat.specs.Design.{InvariantForm}
use Rattle.sv_flat.specs.Readings.{names_signal}
use Rattle.sv_flat.specs.Views.{design_of, invariant_form}
use Rattle.sv_graph.proofs.MarkFacts.{MarksSoFar}
use Rattle.sv_rules.proofs.uses.mark_invariant_uses.Given as goal

abbrev pub invariant-loop-invariant : goal.invariant-loop-invariant
invariant-loop-invariant l =
    let signals = (design_of l.flat).signals in
    MarksSoFar l.initial.table l.table
    (λ s. list_any (λ (i : InvariantForm).
    names_signal signals i.expression s) (design_of l.flat).invariants)
    (λ s. list_any (λ (i : InvariantForm). names_signal signals i.expression s)
    (map invariant_form (drop l.invariant-index l.invariant-items)))
