use Rattle.std.proofs.Common.{All, sym, subst}
use Rattle.sv_flat.specs.Views.{design_of}
use Rattle.sv_obl.specs.DesignQueries.{IsQueryOf, IsPlaced}
use Rattle.sv_paths.proofs.DesignQueryFacts.{selectors_are, selectors_are_placed}
use Rattle.sv_paths.proofs.list_parts.Listing.selector_queries.Goals as goal

pub returns-clause-queries : goal.returns-clause-queries
returns-clause-queries c =
    let design = design_of c.args.design.now in
    let d = c.all_selectors.ensures.design in
    subst (All (IsQueryOf design)) (sym c.in_ok-queries.ensures.listed)
    (selectors_are design d.is_sound d.is_admitted)

pub returns-clause-placed : goal.returns-clause-placed
returns-clause-placed c =
    subst (All IsPlaced) (sym c.in_ok-queries.ensures.listed)
    (selectors_are_placed (design_of c.args.design.now))
