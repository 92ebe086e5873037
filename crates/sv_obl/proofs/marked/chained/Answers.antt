use Rattle.std.proofs.Common.{refl}
use Rattle.sv_obl.specs.declared.marked.Marked.TheViews as view
use Rattle.sv_obl.proofs.MarkedFacts.{chain_told}
use Rattle.sv_obl.proofs.marked.chained.Goals as goal

pub returns : goal.returns
returns c =
    chain_told c.args.first c.args.second c.in_ok-new.field-0.value c.in_ok-new-2.field-0.value
    c.in_ok-targets.targets c.in_ok-targets.ensures c.in_ok-new.ensures.ok
    c.in_ok-new-2.ensures.ok
    (view.Chain c.in_ok-targets.targets c.in_ok-new.field-0 c.in_ok-new-2.field-0) refl
    (λ are m n. (are, m, n))
