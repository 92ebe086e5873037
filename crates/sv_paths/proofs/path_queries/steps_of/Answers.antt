use Rattle.std.proofs.Common.{ap}
use Rattle.sv_flat.specs.Design.{TypedTree}
use Rattle.sv_obl.specs.Paths.{StepForm}
use Rattle.sv_paths.specs.RouteViews.{step_ref_form}
use Rattle.sv_obl.specs.Views.{step_form}
use Rattle.sv_paths.proofs.RouteFacts.{next_reversed}
use Rattle.sv_paths.proofs.path_queries.steps_of.Goals as goal

pub loop-i-preserved : goal.loop-i-preserved
loop-i-preserved c =
    let x = c.index-refs-refs.result in
    let form : TypedTree → StepForm = λ e. record {
      place = x.place;
      condition = e;
      truth = x.truth;
    } in
    next_reversed step_ref_form step_form c.args.refs.now c.loop-i.i x _ c.loop-i.steps.items
    c.push.new.self.items c.loop-i-test.true c.index-refs-refs.is c.in_ok-push.ensures.items
    (ap form c.in_ok-copy.ensures) c.loop-i.invariant
