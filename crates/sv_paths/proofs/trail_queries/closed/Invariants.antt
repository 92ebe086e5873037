use Rattle.std.proofs.Common.{◌≡◌, ◌++◌, false, map, reverse, vec_len}
use Rattle.sv_flat.specs.ByNumber.{signal_forms}
use Rattle.sv_paths.specs.AlongViews.{condition_form}
use Rattle.sv_obl.specs.Paths.{step_with}
use Rattle.sv_obl.specs.Views.{step_form}
use Rattle.sv_obl.specs.Wanted.{closed_tree}
use Rattle.sv_paths.proofs.trail_queries.closed.Given as goal

-- those so far, and those that are left, the last first
abbrev pub invariant-loop-condition : goal.invariant-loop-condition
invariant-loop-condition l =
    let close = step_with (closed_tree (signal_forms l.signals) false) in
    map step_form l.closed.items ++ reverse (map close (map condition_form l.rest.items))
    ≡ reverse (map close (map condition_form l.fn.conditions.items))

abbrev pub decreases-loop-condition : goal.decreases-loop-condition
decreases-loop-condition l = vec_len l.rest
