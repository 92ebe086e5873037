use Rattle.std.proofs.Common.{drop}
use Rattle.sv_blast.specs.LabelViews.{label_form}
use Rattle.sv_blast.specs.LabelSteps.{chain_with, label_stays}
use Rattle.sv_blast.proofs.OrChains.{ChainAt}
use Rattle.sv_blast.proofs.labels.label_stays.Given as goal

abbrev pub invariant-points : goal.invariant-points
invariant-points l =
    ChainAt (chain_with l.fn.chain (label_stays l.lattice (label_form l.label) (label_form l.target))
    l.fn.gates)
    (chain_with l.after (label_stays l.lattice (label_form (drop l.from-index l.label))
    (label_form l.target)) l.gates)
    l.fn.gates l.gates l.after
