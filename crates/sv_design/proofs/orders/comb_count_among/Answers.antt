use Rattle.std.proofs.Common.{rules, tests, ◌∙◌}
use Rattle.std.proofs.lemmas.Iterator.{YieldsList-from_slice}
use Rattle.std.proofs.lemmas.Iterator.Consumers.{count_from_yields_List, YieldsList-from_filter}
use Rattle.sv_flat.specs.declared.signals.SigId.{SigId}
use Rattle.sv_graph.specs.Marks.{is_marked}
use Rattle.sv_design.proofs.QueueFacts.{counted}
use Rattle.sv_design.proofs.orders.comb_count_among.Goals as goal

pub returns : goal.returns
returns c =
    let test = is_marked c.args.combs.now in
    let signals = c.args.signals.now in
    count_from_yields_List c.filter.result _ c.count.ensures.ran
    (YieldsList-from_filter _ (λ (s : SigId). test s.0) (YieldsList-from_slice signals cc)
    c.filter.ensures.closure (λ x b q k. search (rules, tests)))
    ∙ counted test signals
