use Rattle.std.proofs.Common.{Bool, rules, tests, ◌∙◌}
use Rattle.std.proofs.lemmas.Iterator.{YieldsList-from_slice}
use Rattle.std.proofs.lemmas.Iterator.Consumers.{count_from_yields_List, YieldsList-from_filter}
use Rattle.std.proofs.lemmas.List.Sums.{length-filter}
use Rattle.sv_design.proofs.admit.comb_count.Goals as goal

pub returns : goal.returns
returns c =
    let test = λ (b : Bool). b in
    let combs = c.args.combs.now in
    count_from_yields_List c.filter.result _ c.count.ensures.ran
    (YieldsList-from_filter _ test (YieldsList-from_slice combs cc) c.filter.ensures.closure
    (λ x b q k. search (rules, tests)))
    ∙ length-filter test combs
