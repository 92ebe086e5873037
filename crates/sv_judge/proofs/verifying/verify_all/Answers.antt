use Rattle.std.proofs.Common.{sym, ◌∙◌, ap, ◌+◌, length, List, subst}
use Rattle.std.specs.Prelude.{OnOk}
use Rattle.sv_flat.specs.Views.{design_of}
use Rattle.sv_obl.specs.declared.queries.Query.{Query}
use Rattle.sv_proof.specs.Certificate.{plain_logs}
use Rattle.sv_judge.specs.Certified.{EarlierAreShown}
use Rattle.sv_judge.specs.Walking.{AreNext}
use Rattle.sv_judge.proofs.verifying.verify_all.Goals as goal

pub verify_part-requires-clause-next : goal.verify_part-requires-clause-next
verify_part-requires-clause-next c =
    subst (AreNext (design_of c.args.design.now) c.verify_targets.new.listing.count)
    (sym c.deref.ensures.value) c.in_ok-queries.ensures.next

pub returns-clause-shown : goal.returns-clause-shown
returns-clause-shown c =
    subst (λ n. OnOk c.verify_part.result
    (EarlierAreShown (design_of c.args.design.now) n (plain_logs c.args.logs.now)))
    (ap (λ (qs : List Query). c.verify_targets.new.listing.count + length qs)
    c.deref.ensures.value
    ∙ c.in_ok-queries.ensures.all)
    c.verify_part.ensures.shown
