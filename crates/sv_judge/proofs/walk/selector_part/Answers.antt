use Rattle.std.proofs.Common.{◌≤◌, subst}
use Rattle.sv_flat.specs.Views.{design_of}
use Rattle.sv_judge.proofs.WalkFacts.{known_at, selectors_next, selectors_last}
use Rattle.sv_judge.proofs.walk.selector_part.Goals as goal

pub returns-in-Ok-clause-next : goal.returns-in-Ok-clause-next
returns-in-Ok-clause-next c =
    selectors_next (design_of c.args.design.now) c.args.listing.now c.in-Ok.queries.items
    (known_at c.args.design.now c.args.listing.now c.requires.at)
    c.in-Ok.ensures.listed c.in-Ok.ensures.few c.in-Ok.ensures.queries c.in-Ok.ensures.placed

pub returns-in-Ok-clause-all : goal.returns-in-Ok-clause-all
returns-in-Ok-clause-all c =
    selectors_last (design_of c.args.design.now) c.args.listing.now c.in-Ok.queries.items
    (known_at c.args.design.now c.args.listing.now c.requires.at)
    c.in-Ok.ensures.listed

pub returns-in-Ok-clause-few : goal.returns-in-Ok-clause-few
returns-in-Ok-clause-few c =
    subst (λ n. n ≤ 65536)
    (selectors_last (design_of c.args.design.now) c.args.listing.now c.in-Ok.queries.items
    (known_at c.args.design.now c.args.listing.now c.requires.at)
    c.in-Ok.ensures.listed) c.in-Ok.ensures.few
