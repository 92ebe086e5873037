use Rattle.std.proofs.Common.{All, sym, subst}
use Rattle.sv_flat.specs.Views.{design_of}
use Rattle.sv_obl.specs.DesignQueries.{IsQueryOf, IsPlaced}
use Rattle.sv_paths.proofs.DesignQueryFacts.{both_listed, all_are, all_placed}
use Rattle.sv_paths.proofs.listing.obligations.Goals as goal

pub returns-clause-queries : goal.returns-clause-queries
returns-clause-queries c =
    let design = design_of c.args.design.now in
    let d = c.queries_of_targets.ensures.design in
    let all = both_listed c.args.design.now c.in_ok-queries.queries.items
    c.in_ok-selectors.selectors.items c.append.new.self.items c.in_ok-append.ensures.items
    c.in_ok-queries.ensures.listed c.in_ok-selectors.ensures.listed in
    subst (All (IsQueryOf design)) (sym all) (all_are design d.is_sound d.is_admitted)

pub returns-clause-placed : goal.returns-clause-placed
returns-clause-placed c =
    let all = both_listed c.args.design.now c.in_ok-queries.queries.items
    c.in_ok-selectors.selectors.items c.append.new.self.items c.in_ok-append.ensures.items
    c.in_ok-queries.ensures.listed c.in_ok-selectors.ensures.listed in
    subst (All IsPlaced) (sym all) (all_placed (design_of c.args.design.now))
