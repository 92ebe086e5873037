use Rattle.std.proofs.Common.{None, map, drop}
use Rattle.sv_blast.specs.LabelViews.{label_form}
use Rattle.sv_blast.specs.LabelSteps.{chain_with}
use Rattle.sv_blast.proofs.OrChains.{ChainAt}
use Rattle.sv_blast.proofs.FlowSteps.{all_stays}
use Rattle.sv_blast.proofs.labels.some_stays.Given as goal

abbrev pub invariant-labels : goal.invariant-labels
invariant-labels l =
    ChainAt (chain_with None (all_stays l.design.lattice (label_form l.target)
    (map (λ label. label_form label.items) l.labels)) l.fn.gates)
    (chain_with l.chain (all_stays l.design.lattice (label_form l.target)
    (map (λ label. label_form label.items) (drop l.label-index l.labels))) l.gates)
    l.fn.gates l.gates l.chain
