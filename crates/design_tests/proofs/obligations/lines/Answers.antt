use Rattle.std.proofs.Common.{map, sym, subst}
use Rattle.std.specs.Prelude.{All}
use Rattle.sv_flat.specs.Views.{design_of}
use Rattle.sv_obl.specs.DesignQueries.{IsQueryOf}
use Rattle.sv_obl.specs.Views.{obligation_of}
use Rattle.design_tests.proofs.QueryFacts.{asked_at}
use Rattle.design_tests.proofs.obligations.lines.Goals as goal

pub list_line-requires-clause-query : goal.list_line-requires-clause-query
list_line-requires-clause-query c =
    let design = design_of c.args.design.now in
    let all = subst (λ qs. All (IsQueryOf design) (map obligation_of qs))
    (sym c.deref-query-items.ensures.value) c.in_ok-queries.ensures.queries in
    subst (λ q. IsQueryOf design (obligation_of q)) (sym c.query-item.is)
    (asked_at design c.deref-query-items.result.now c.loop-query.query-index c.query-item.result
    all c.loop-query-test.true)
