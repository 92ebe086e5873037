use Rattle.std.proofs.Common.{drop}
use Rattle.sv_blast.specs.LabelViews.{point_form, label_form}
use Rattle.sv_blast.specs.LabelSteps.{chain_with, point_stays}
use Rattle.sv_blast.proofs.OrChains.{ChainAt}
use Rattle.sv_blast.proofs.labels.point_stays.Given as goal

abbrev pub invariant-targets : goal.invariant-targets
invariant-targets l =
    ChainAt (chain_with l.fn.chain (point_stays l.lattice (point_form l.fn.from) (label_form l.target))
    l.fn.gates)
    (chain_with l.after (point_stays l.lattice (point_form l.fn.from)
    (label_form (drop l.to-index l.target))) l.gates)
    l.fn.gates l.gates l.after
