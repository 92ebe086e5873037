use Rattle.std.proofs.Common.{sym, ap, subst, ◌∙◌, take}
use Rattle.std.specs.Prelude.{IsTrue, slice_index}
use Rattle.sv_flat.specs.ByNumber.{by_number, updated}
use Rattle.sv_flat.specs.Design.{ProcessForm}
use Rattle.sv_flat.specs.FlatSystem.{all_updates}
use Rattle.sv_flat.specs.Processes.{is_clocked}
use Rattle.sv_flat.specs.Runs.{run}
use Rattle.sv_flat.specs.Schedules.{in_order}
use Rattle.sv_flat.specs.Views.{design_of}
use Rattle.sv_event.proofs.TickFacts.{order_known, clocked_inside, clocked_at, among_processes}
use Rattle.sv_event.proofs.TickFacts.{numbered, numbered_in, tick_more}
use Rattle.sv_event.proofs.ticks.tick_all.Goals as goal

pub update_at-requires-clause-place : goal.update_at-requires-clause-place
update_at-requires-clause-place c =
    let design = design_of c.args.design.now in
    let order = c.args.order.now in
    let i = c.loop-k.k-index in
    clocked_inside design c.args.clocked.now c.requires.clocked (slice_index order i)
    (order_known design order c.requires.order i c.loop-k-test.true)

pub update_at-requires-clause-clocked : goal.update_at-requires-clause-clocked
update_at-requires-clause-clocked c =
    let design = design_of c.args.design.now in
    let order = c.args.order.now in
    let k = slice_index order c.loop-k.k-index in
    let known = order_known design order c.requires.order c.loop-k.k-index c.loop-k-test.true in
    subst (λ (p : ProcessForm). IsTrue (is_clocked p.kind))
    (clocked_at design c.args.clocked.now c.requires.clocked k known)
    (among_processes design (numbered design k) (numbered_in design k known)).1

pub loop-k-preserved : goal.loop-k-preserved
loop-k-preserved c =
    let design = design_of c.args.design.now in
    let order = c.args.order.now in
    let i = c.loop-k.k-index in
    let k = slice_index order i in
    let e = by_number c.args.values.now in
    let before = all_updates design (in_order design (take i order)) e in
    let known = order_known design order c.requires.order i c.loop-k-test.true in (
      c.update_at.ensures.fit,
      c.update_at.ensures.run before c.loop-k.invariant.1
          ∙ ap (λ (p : ProcessForm). updated e (run design.signals p.body (e, before)).1)
          (sym (clocked_at design c.args.clocked.now c.requires.clocked k known))
          ∙ ap (updated e)
          (tick_more design c.update_at.ensures.design.is_sound c.update_at.ensures.design.is_admitted order c.requires.order i
          c.loop-k-test.true e),
    )
