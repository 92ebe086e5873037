use Rattle.std.proofs.Common.{rules, tests, ◌∙◌}
use Rattle.std.proofs.lemmas.Iterator.{YieldsList-from_slice}
use Rattle.std.proofs.lemmas.Iterator.Search.{any_from_yields_List}
use Rattle.sv_paths.specs.declared.trails.Trail.{Trail}
use Rattle.sv_paths.specs.Alongs.{is_large_trail}
use Rattle.sv_paths.specs.TrailViews.{trail_form}
use Rattle.sv_obl.proofs.PieceFacts.{any_formed}
use Rattle.sv_paths.proofs.nodes.some_trail_large.Goals as goal

pub returns : goal.returns
returns c =
    any_from_yields_List (λ (t : Trail). is_large_trail (trail_form t)) _ _ c.any.result
    c.any.ensures.ran (YieldsList-from_slice c.args.trails.now cc)
    (λ x b q k. search (rules, tests))
    ∙ any_formed trail_form is_large_trail c.args.trails.now
