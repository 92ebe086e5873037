use Rattle.std.proofs.Common.{sym, ap, ◌∙◌}
use Rattle.std.specs.Prelude.{slice_index}
use Rattle.sv_flat.specs.ByNumber.{by_number}
use Rattle.sv_flat.specs.Schedules.{numbered_run}
use Rattle.sv_flat.specs.Views.{design_of}
use Rattle.sv_event.proofs.RunFacts.{schedule_more}
use Rattle.sv_event.proofs.runs.run_all.Goals as goal

pub loop-k-preserved : goal.loop-k-preserved
loop-k-preserved c =
    let design = design_of c.args.design.now in
    let k = c.loop-k.k in
    let schedule = c.args.schedule.now in (
      c.run_numbered.ensures.fit,
      c.run_numbered.ensures.run
          ∙ ap (numbered_run design (slice_index schedule k)) c.loop-k.invariant.1
          ∙ sym (schedule_more design schedule k (by_number c.args.values.now)
          c.loop-k-test.true),
    )
