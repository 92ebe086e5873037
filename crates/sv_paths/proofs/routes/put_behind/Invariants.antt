use Rattle.std.proofs.Common.{◌≡◌, ◌-◌, length}
use Rattle.sv_obl.specs.Routes.{behind}
use Rattle.sv_paths.specs.RouteViews.{step_ref_form, route_forms}
use Rattle.sv_paths.proofs.RouteFacts.{changed_from}
use Rattle.sv_paths.proofs.routes.put_behind.Given as goal

-- those before the index stand behind the condition
abbrev pub invariant-loop-i : goal.invariant-loop-i
invariant-loop-i l =
    let f = behind (step_ref_form l.step) in
    let old = route_forms l.fn.routes.items in
    record {
      routes : route_forms l.routes.items ≡ changed_from f old l.start (l.i - l.start);
      count : length l.routes.items ≡ length l.fn.routes.items;
    }
