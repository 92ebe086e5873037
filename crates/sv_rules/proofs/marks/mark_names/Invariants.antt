use Rattle.std.proofs.Common.{◌==◌, drop}
use Rattle.std.specs.List.{list_any}
use Rattle.sv_flat.specs.Readings.{names_signal}
use Rattle.sv_flat.specs.Views.{design_of, typed_tree}
use Rattle.sv_rules.specs.declared.names.Read.{Read}
use Rattle.sv_graph.proofs.MarkFacts.{MarksSoFar}
use Rattle.sv_rules.proofs.marks.mark_names.Given as goal

-- the names so far, and those that are left
abbrev pub invariant-loop-name : goal.invariant-loop-name
invariant-loop-name l =
    MarksSoFar l.initial.table l.table (names_signal (design_of l.flat).signals (typed_tree l.expr))
    (λ s. list_any (λ (r : Read). r.signal.0 == s) (drop l.name-index l.name-items))
