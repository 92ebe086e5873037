use Rattle.std.proofs.Common.{◌≡◌, false, map, reverse, ap, ◌∙◌, Vec, Global}
use Rattle.sv_flat.specs.ByNumber.{signal_forms}
use Rattle.sv_obl.specs.declared.queries.PathStep.{PathStep}
use Rattle.sv_paths.specs.Alongs.{WayForm, along, open_way, conditions_along}
use Rattle.sv_paths.specs.AlongViews.{way_form}
use Rattle.sv_obl.specs.MarkedBodies.{marked_statement}
use Rattle.sv_obl.specs.Paths.{step_with}
use Rattle.sv_paths.specs.TrailViews.{trail_form}
use Rattle.sv_obl.specs.Views.{step_form}
use Rattle.sv_obl.specs.Wanted.{closed_tree}
use Rattle.sv_paths.proofs.AlongFacts.{begins}
use Rattle.sv_obl.proofs.SliceChains.{on_ok}
use Rattle.sv_paths.proofs.trail_queries.steps_along.Goals as goal

pub returns : goal.returns
returns c =
    let forms = signal_forms c.args.walk.signals.now in
    let s = c.args.walk.target.0 in
    let body = marked_statement c.args.body.now in
    let trail = trail_form c.args.trail.now in
    let close = step_with (closed_tree forms false) in
    let way : way_form c.along.new.making ≡ along forms s body (open_way s trail.choices) =
    c.in_ok-along.ensures
    ∙ ap (along forms s body) (begins s (trail_form c.open.result) c.new.result.items
    c.as_slice.result.now trail.choices c.open.ensures c.new.ensures.items
    c.as_slice.ensures.value) in
    on_ok c.closed.result (λ (v : Vec PathStep Global). map step_form v.items
    ≡ reverse (map close (way_form c.along.new.making).steps))
    (λ (v : Vec PathStep Global). map step_form v.items ≡ conditions_along forms s body trail)
    (λ v is. is ∙ ap (λ (w : WayForm). reverse (map close w.steps)) way)
    c.closed.ensures
