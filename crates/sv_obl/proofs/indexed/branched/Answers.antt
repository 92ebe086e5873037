use Rattle.std.proofs.Common.{refl}
use Rattle.sv_flat.specs.Views.{typed_tree}
use Rattle.sv_obl.specs.declared.indexed.Indexed.TheViews as view
use Rattle.sv_obl.proofs.IndexedFacts.{branch_indexed}
use Rattle.sv_obl.proofs.indexed.branched.Goals as goal

pub returns : goal.returns
returns c = λ first second one two.
    branch_indexed c.args.yes c.args.no c.in_ok-new.field-0.value c.in_ok-new-2.field-0.value
    c.in_ok-targets.targets.keys c.in_ok-targets.ensures c.in_ok-new.ensures.ok
    c.in_ok-new-2.ensures.ok
    (view.Branch c.in_ok-targets.targets c.args.place c.args.cond c.in_ok-new.field-0
    c.in_ok-new-2.field-0)
    (λ covers m n. (covers, m, n)) c.args.place (typed_tree c.args.cond.now) first second refl
    one two
