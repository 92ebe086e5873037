use Rattle.std.proofs.Common.{◌≡◌, ◌-◌, length, drop, map, reverse}
use Rattle.sv_paths.specs.RouteViews.{step_ref_form}
use Rattle.sv_obl.specs.Views.{step_form}
use Rattle.sv_paths.proofs.path_queries.steps_of.Given as goal

-- those that were copied, from the last one back
abbrev pub invariant-loop-i : goal.invariant-loop-i
invariant-loop-i l =
    map step_form l.steps.items ≡ reverse (map step_ref_form (drop (length l.refs - l.i) l.refs))
