use Rattle.sv_flat.specs.ByNumber.{signal_forms}
use Rattle.sv_obl.specs.Exchange.{exchanged}
use Rattle.sv_obl.specs.Paths.{step_with}
use Rattle.sv_paths.specs.PutIn.{put_for}
use Rattle.sv_obl.specs.Wanted.{with_copies}
use Rattle.sv_paths.proofs.AlongFacts.{put_next}
use Rattle.sv_paths.proofs.trail_queries.put_in_conditions.Goals as goal

pub loop-condition-preserved : goal.loop-condition-preserved
loop-condition-preserved c =
    let forms = signal_forms c.args.signals.now in
    put_next (step_with (exchanged (with_copies forms) (put_for forms c.args.put)))
    c.loop-condition.made.items c.push.new.self.items c.loop-condition.yielded _
    c.in-Some.condition c.in_ok-push.ensures.items c.in_ok-with_put.ensures
    c.loop-condition.invariant
