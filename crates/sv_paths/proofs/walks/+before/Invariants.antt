use Rattle.std.proofs.Common.{◌≡◌, ◌≤◌, ◌++◌, length, flat_map}
use Rattle.sv_flat.specs.ByNumber.{signal_forms}
use Rattle.sv_obl.specs.SliceRoutes.{slice_routes}
use Rattle.sv_paths.specs.RouteViews.{route_forms}
use Rattle.sv_paths.proofs.walks.+before.Given as goal

-- those of the routes so far were added
abbrev pub invariant-before_each-loop-route : goal.invariant-before_each-loop-route
invariant-before_each-loop-route l = record {
  adds : route_forms l.all.items ≡ route_forms l.initial.all.items
      ++ flat_map (slice_routes (signal_forms l.walk.signals.now) l.walk.target.0 l.slice)
      (route_forms l.yielded);
  few : length l.initial.all.items ≤ 4096 → length l.all.items ≤ 4096;
}
