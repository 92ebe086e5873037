use Rattle.std.proofs.Common.{refl}
use Rattle.sv_flat.specs.Views.{typed_tree}
use Rattle.sv_obl.specs.declared.marked.Marked.TheViews as view
use Rattle.sv_obl.proofs.MarkedFacts.{branch_told}
use Rattle.sv_obl.proofs.marked.branched.Goals as goal

pub returns : goal.returns
returns c =
    branch_told c.args.yes c.args.no c.in_ok-new.field-0.value c.in_ok-new-2.field-0.value
    c.in_ok-targets.targets c.in_ok-targets.ensures c.in_ok-new.ensures.ok
    c.in_ok-new-2.ensures.ok
    (view.Branch c.in_ok-targets.targets c.args.place c.args.cond c.in_ok-new.field-0
    c.in_ok-new-2.field-0) c.args.place (typed_tree c.args.cond) refl
    (λ are m n. (are, m, n))
