use Rattle.std.proofs.Common.{◌+◌, length, map, take}
use Rattle.sv_flat.specs.ByNumber.{signal_forms}
use Rattle.sv_flat.specs.Views.{process_form}
use Rattle.sv_paths.specs.RouteObligations.{route_obligation}
use Rattle.sv_paths.specs.RouteViews.{route_form, route_forms}
use Rattle.sv_obl.proofs.FormLists.{form_there}
use Rattle.sv_paths.proofs.WrittenFacts.{forms_more, fewer_formed, none_written, one_written}
use Rattle.sv_paths.proofs.list_texts.push_routes.Goals as goal

pub loop-route-init : goal.loop-route-init
loop-route-init c = none_written (signal_forms c.args.driven.signals.now) c.args.lines.now

pub push_route-requires : goal.push_route-requires
push_route-requires c =
    let n = length c.args.driven.signals.now in
    let routes = c.args.routes.now in
    let i = c.loop-route.route-index in
    let x = c.route-item.result in
    record {
      known = c.requires.known;
      names = c.requires.names (route_form x)
          (form_there route_form routes i x c.loop-route-test.true c.route-item.is);
      few = fewer_formed (signal_forms c.args.driven.signals.now) route_form
          (route_obligation n (process_form c.args.driven.process.now) c.args.driven.target.0)
          routes i 65536 c.args.lines.now c.loop-route.lines c.loop-route-test.true
          c.requires.few c.loop-route.invariant;
    }

pub loop-route-preserved : goal.loop-route-preserved
loop-route-preserved c =
    let n = length c.args.driven.signals.now in
    let become = route_obligation n (process_form c.args.driven.process.now) c.args.driven.target.0 in
    let forms = signal_forms c.args.driven.signals.now in
    let routes = c.args.routes.now in
    let i = c.loop-route.route-index in
    let x = c.route-item.result in
    one_written forms (map become (route_forms (take i routes)))
    (map become (route_forms (take (i + 1) routes))) (become (route_form x)) c.args.lines.now
    c.loop-route.lines c.push_route.new.lines
    (forms_more route_form become routes i x c.loop-route-test.true c.route-item.is)
    c.loop-route.invariant c.in_ok-push_route.ensures
