use Rattle.std.proofs.Common.{refl, ap, ◌∙◌}
use Rattle.sv_flat.specs.Design.{TypedTree}
use Rattle.sv_flat.specs.Views.{typed_tree}
use Rattle.sv_paths.specs.AlongViews.{way_form}
use Rattle.sv_obl.specs.Paths.{StepForm}
use Rattle.sv_paths.specs.TrailViews.{trail_form}
use Rattle.sv_obl.specs.Views.{step_form}
use Rattle.sv_paths.proofs.AlongFacts.{step_added}
use Rattle.sv_paths.proofs.trail_queries.Making.add.Goals as goal

pub returns : goal.returns
returns c =
    let step : TypedTree → StepForm = λ e.
    record { place = c.args.step.place; condition = e; truth = c.args.step.truth } in
    step_added c.args.count (step (typed_tree c.args.step.cond.now)) (way_form c.args.self.now)
    (trail_form c.add_mark.new.self) c.args.self.now.conditions.items c.push.new.self.items
    _ c.in_ok-add_mark.ensures refl c.in_ok-push.ensures.items
    (ap step_form c.in_ok-new.ensures ∙ ap step c.in_ok-copy.ensures)
