use Rattle.std.proofs.Common.{◌≡◌, map}
use Rattle.sv_flat.specs.ByNumber.{signal_forms}
use Rattle.sv_paths.specs.AlongViews.{condition_form}
use Rattle.sv_obl.specs.Exchange.{exchanged}
use Rattle.sv_obl.specs.Paths.{step_with}
use Rattle.sv_paths.specs.PutIn.{put_for}
use Rattle.sv_obl.specs.Wanted.{with_copies}
use Rattle.sv_paths.proofs.trail_queries.put_in_conditions.Given as goal

-- those so far
abbrev pub invariant-loop-condition : goal.invariant-loop-condition
invariant-loop-condition l =
    let signals = signal_forms l.signals in
    map condition_form l.made.items
    ≡ map (step_with (exchanged (with_copies signals) (put_for signals l.put)))
    (map condition_form l.yielded)
