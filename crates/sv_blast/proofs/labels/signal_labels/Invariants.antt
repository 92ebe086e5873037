use Rattle.std.proofs.Common.{map, drop, length, ◌<◌}
use Rattle.std.specs.Prelude.{All}
use Rattle.sv_flat.specs.Views.{design_of}
use Rattle.sv_design.specs.Numbers.{numbers}
use Rattle.sv_encoding.specs.Labels.{signal_labels}
use Rattle.sv_blast.specs.declared.labels.PointLiteral.{PointLiteral}
use Rattle.sv_blast.specs.WordTables.{words_of}
use Rattle.sv_blast.specs.LabelViews.{label_form}
use Rattle.sv_blast.proofs.SignalLabels.{LabelsAt}
use Rattle.sv_blast.proofs.labels.signal_labels.Given as goal

abbrev pub invariant-signals : goal.invariant-signals
invariant-signals l = record {
  at : LabelsAt (design_of l.design) (words_of l.words)
      (signal_labels (design_of l.design) (words_of l.words) (numbers l.signals) l.fn.gates)
      (numbers (drop l.signal-index l.signals)) l.fn.gates l.gates
      (map (λ label. label_form label.items) l.labels.items);
  points : All (All (λ (p : PointLiteral). p.point.0 < length l.design.lattice))
      (map (λ label. label.items) l.labels.items);
}
