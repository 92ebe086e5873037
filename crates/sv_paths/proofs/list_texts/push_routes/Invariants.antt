use Rattle.std.proofs.Common.{length, take, map}
use Rattle.sv_flat.specs.ByNumber.{signal_forms}
use Rattle.sv_flat.specs.Views.{process_form}
use Rattle.sv_paths.specs.RouteObligations.{route_obligation}
use Rattle.sv_paths.specs.RouteViews.{route_forms}
use Rattle.sv_paths.specs.Written.{Writes}
use Rattle.sv_paths.proofs.list_texts.push_routes.Given as goal

-- those of the paths so far were added
abbrev pub invariant-loop-route : goal.invariant-loop-route
invariant-loop-route l =
    Writes (signal_forms l.driven.signals.now)
    (map (route_obligation (length l.driven.signals.now) (process_form l.driven.process.now)
    l.driven.target.0) (route_forms (take l.route-index l.routes)))
    l.initial.lines l.lines
