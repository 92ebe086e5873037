use Rattle.std.proofs.Common.{◌≡◌, List, [], ◌∷◌, ◌++◌, map, ap, sym, ◌∙◌, arith, rules}
use Rattle.std.proofs.lemmas.List.{length-map, map-append}
use Rattle.sv_obl.specs.Paths.{StepForm}
use Rattle.sv_obl.specs.Routes.{RouteForm, behind}
use Rattle.sv_paths.specs.RouteViews.{step_ref_form, route_form, route_forms}
use Rattle.sv_paths.proofs.RouteFacts.{one_changed}
use Rattle.sv_paths.proofs.routes.put_behind.Goals as goal

pub loop-i-preserved : goal.loop-i-preserved
loop-i-preserved c =
    let old = c.index_mut-route.result.now in
    let step = step_ref_form c.args.step in
    let steps : map step_ref_form c.push.new.self.items ≡ map step_ref_form old.steps.items ++ step ∷ [] =
    ap (map step_ref_form) c.in_ok-push.ensures.items
    ∙ map-append step_ref_form old.steps.items (c.args.step ∷ []) in
    let with_steps : List StepForm → RouteForm = λ steps. record {
      steps = steps;
      names = old.names.keys;
      nodes = old.nodes;
      place = old.place;
      wants = old.wants;
    } in
    record {
      routes = one_changed route_form (behind step) (route_forms c.args.routes.now.items)
          c.loop-i.routes.items c.args.start c.loop-i.i old _ (omega arith) (omega arith)
          (c.loop-i.invariant.count ∙ sym (length-map c.args.routes.now.items route_form))
          c.index_mut-route.ensures.value (ap with_steps steps) c.loop-i.invariant.routes;
      count = search rules;
    }
