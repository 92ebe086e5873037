use Rattle.std.proofs.Common.{◌-◌}
use Rattle.sv_flat.specs.Views.{design_of}
use Rattle.sv_cli.proofs.Numbered.{is_query}
use Rattle.sv_cli.proofs.clauses.selector_query.Goals as goal

pub returns-in-Ok-clause-query : goal.returns-in-Ok-clause-query
returns-in-Ok-clause-query c =
    is_query (design_of c.args.design.now) c.args.before c.in-Ok.queries.items
    (c.args.before - c.args.listing.now.count) c.taken.result c.in-Ok.ensures.queries
    c.taken.ensures
