use Rattle.std.proofs.Common.{◌≡◌, ◌||◌, nat_lt, length, map, set, Some, sym, ap, ◌∙◌, arith}
use Rattle.std.proofs.lemmas.List.{map_push}
use Rattle.std.proofs.Math.ListN.{length-map}
use Rattle.sv_graph.specs.declared.searches.Visit.{Visit}
use Rattle.sv_graph.specs.Searches.{found_by}
use Rattle.sv_graph.proofs.SearchFacts.{visit_passed, visit_new}
use Rattle.sv_graph.proofs.searches.Search.visit.Goals as goal

pub returns-then-passed : goal.returns-then-passed
returns-then-passed c =
    visit_passed c.args.self.now c.args.least c.args.signal.0 c.args.from
    (ap (λ b. nat_lt c.args.signal.0 c.args.least || b) (sym c.has.ensures) ∙ c.if-passed.true)

pub returns : goal.returns
returns c =
    let visits = c.args.self.now.visits.items in
    let count : c.len.result ≡ length (found_by c.args.self.now) = let sizes =
    length-map visits (λ (visit : Visit). visit.signal.0) in omega (arith, c.len.ensures) in
    visit_new c.args.self.now c.args.least c.args.signal.0 c.args.from
    (ap (λ b. nat_lt c.args.signal.0 c.args.least || b) (sym c.has.ensures)
    ∙ c.if-passed.false) _ _ _
    (ap (map (λ (visit : Visit). visit.signal.0)) c.in_ok-push.ensures.items
    ∙ map_push (λ (visit : Visit). visit.signal.0) visits _)
    (ap (map (λ (visit : Visit). visit.from)) c.in_ok-push.ensures.items
    ∙ map_push (λ (visit : Visit). visit.from) visits _)
    (ap (λ n. set c.args.self.now.places.items c.args.signal.0 (Some n)) count)
