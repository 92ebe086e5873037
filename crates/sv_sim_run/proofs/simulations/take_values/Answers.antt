use Rattle.std.proofs.Common.{◌<◌, get_or, subst, sym, ◌∙◌, arith}
use Rattle.std.specs.Prelude.{Contains}
use Rattle.sv_flat.specs.declared.designs.Flat.{Flat}
use Rattle.sv_flat.specs.SignalLists.{system_signals}
use Rattle.sv_flat.specs.Views.{design_of}
use Rattle.sv_sim_run.specs.Runners.{values_in}
use Rattle.sv_sim_run.proofs.ValueFacts.{count_is, is_among, value_more, values_are}
use Rattle.sv_sim_run.proofs.simulations.take_values.Goals as goal

pub value-requires-clause-seen : goal.value-requires-clause-seen
value-requires-clause-seen c =
    let at = is_among c.seen-seen.result.now (system_signals (design_of c.args.design.now))
    c.seen-seen.ensures.seen c.loop-k.k c.loop-k-test.true in
    subst
    (λ (d : Flat). Contains (system_signals (design_of d))
    (get_or c.seen-seen.result.now c.loop-k.k (record { 0 = 0 })).0) (sym c.requires.runner) at

pub loop-k-preserved : goal.loop-k-preserved
loop-k-preserved c =
    value_more c.seen-seen.result.now (system_signals (design_of c.args.design.now))
    (values_in c.args.runner.now) c.loop-k.values c.loop-k.k c.value.result
    c.seen-seen.ensures.seen c.loop-k-test.true (c.loop-k.auto.values ∙ c.requires.room)
    c.value.ensures c.loop-k.invariant

pub returns : goal.returns
returns c =
    let flat = design_of c.args.design.now in
    let count = count_is c.seen-seen.result.now (system_signals flat) c.seen-seen.ensures.seen in
    values_are (system_signals flat) c.loop-k.values (values_in c.args.runner.now)
    (c.loop-k.auto.values ∙ c.requires.room)
    (λ j inside.
    let below : j < c.loop-k.k = omega (arith, count, c.loop-k-test.false) in
    c.loop-k.invariant j below)
