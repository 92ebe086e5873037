use Rattle.std.proofs.Common.{rules, tests, ◌∙◌}
use Rattle.std.proofs.lemmas.Iterator.{YieldsList-from_slice}
use Rattle.std.proofs.lemmas.Iterator.Search.{any_from_yields_List}
use Rattle.sv_paths.specs.declared.routes.Route.{Route}
use Rattle.sv_paths.specs.RouteObligations.{is_large}
use Rattle.sv_paths.specs.RouteViews.{route_form}
use Rattle.sv_obl.proofs.PieceFacts.{any_formed}
use Rattle.sv_paths.proofs.nodes.some_large.Goals as goal

pub returns : goal.returns
returns c =
    any_from_yields_List (λ (t : Route). is_large (route_form t)) _ _ c.any.result
    c.any.ensures.ran (YieldsList-from_slice c.args.routes.now cc)
    (λ x b q k. search (rules, tests))
    ∙ any_formed route_form is_large c.args.routes.now
