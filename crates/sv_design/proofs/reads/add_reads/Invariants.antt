use Rattle.std.proofs.Common.{◌&&◌, ◌==◌, length, drop}
use Rattle.std.specs.List.{list_any}
use Rattle.sv_flat.specs.Views.{design_of, typed_tree}
use Rattle.sv_rules.specs.declared.names.Read.{Read}
use Rattle.sv_graph.specs.BitSets.{has_some}
use Rattle.sv_design.specs.Feeds.{is_sought, names_sought}
use Rattle.sv_graph.specs.BitGraphs.{has_edge, IsOver}
use Rattle.sv_rules.specs.ReadForms.{read_form}
use Rattle.sv_rules.specs.Surroundings.{in_surrounding}
use Rattle.sv_graph.proofs.GraphFacts.{EdgesSoFar}
use Rattle.sv_design.proofs.reads.add_reads.Given as goal

-- the names so far, and those that are left
abbrev pub invariant-loop-name : goal.invariant-loop-name
invariant-loop-name l =
    let signals = (design_of l.flat).signals in
    let later = in_surrounding l.served.later.now in
    IsOver (length l.flat.signals.items) l.graph
    × EdgesSoFar (has_edge l.initial.graph) (has_edge l.graph) (λ a b.
    names_sought signals l.sought later (typed_tree l.expr) a && has_some l.served.targets.now b)
    (λ a b. list_any (λ (r : Read).
    (r.signal.0 == a) && is_sought signals l.sought later (read_form r))
    (drop l.name-index l.name-items)
    && has_some l.served.targets.now b)
