use Rattle.std.proofs.Common.{◌+◌, length, sym, ◌∙◌, ap, subst, arith}
use Rattle.sv_flat.specs.Views.{design_of}
use Rattle.sv_judge.specs.Walking.{AreNext}
use Rattle.sv_judge.proofs.checking.decide_all.Goals as goal

pub decide_targets-requires-clause-same : goal.decide_targets-requires-clause-same
decide_targets-requires-clause-same c =
    c.new-progress.ensures.count ∙ sym c.new-listing.ensures.at.counted.count

pub decide_targets-requires-clause-done : goal.decide_targets-requires-clause-done
decide_targets-requires-clause-done c =
    c.new-progress.ensures.done (design_of c.args.design.now) c.args.budget

pub decide_part-requires-clause-next : goal.decide_part-requires-clause-next
decide_part-requires-clause-next c =
    subst (λ n. AreNext (design_of c.args.design.now) n c.in_ok-queries.queries.items)
    (sym c.in_ok-decide_targets.ensures.same) c.in_ok-queries.ensures.next

pub returns-clause-all : goal.returns-clause-all
returns-clause-all c =
    c.in_ok-decide_part.ensures.count
    ∙ ap (λ n. n + length c.in_ok-queries.queries.items) c.in_ok-decide_targets.ensures.same
    ∙ c.in_ok-queries.ensures.all

pub returns-clause-few : goal.returns-clause-few
returns-clause-few c =
    let counted = c.in_ok-decide_part.ensures.count in
    let same = c.in_ok-decide_targets.ensures.same in
    let all = c.in_ok-queries.ensures.all in
    let few = c.in_ok-queries.ensures.few in
    omega arith
