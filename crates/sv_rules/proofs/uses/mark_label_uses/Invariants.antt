use Rattle.std.proofs.Common.{map, drop}
use Rattle.std.specs.List.{list_any}
use Rattle.sv_flat.specs.Clocks.{selects_by}
use Rattle.sv_flat.specs.Design.{SignalForm}
use Rattle.sv_flat.specs.Views.{design_of, signal_form}
use Rattle.sv_graph.proofs.MarkFacts.{MarksSoFar}
use Rattle.sv_rules.proofs.uses.mark_label_uses.Given as goal

abbrev pub invariant-loop-signal : goal.invariant-loop-signal
invariant-loop-signal l =
    MarksSoFar l.initial.table l.table (λ s.
    list_any (λ (z : SignalForm). selects_by s z.label) (design_of l.flat).signals)
    (λ s. list_any (λ (z : SignalForm).
    selects_by s z.label) (map signal_form (drop l.signal-index l.signal-items)))
