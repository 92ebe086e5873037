use Rattle.std.proofs.Common.{get_or, sym, subst}
use Rattle.std.specs.Prelude.{Contains}
use Rattle.sv_flat.specs.declared.designs.Flat.{Flat}
use Rattle.sv_flat.specs.SignalLists.{system_signals}
use Rattle.sv_flat.specs.Views.{design_of}
use Rattle.sv_sim.proofs.Simulated.{listed_at}
use Rattle.design_tests.proofs.runs.values_of.Goals as goal

pub value-requires : goal.value-requires
value-requires c =
    let seen = c.seen-signal-items.result.now in
    let k = c.loop-signal.signal-index in
    subst (λ (flat : Flat).
    Contains (system_signals (design_of flat)) (get_or seen k (record { 0 = 0 })).0)
    (sym c.requires)
    (listed_at seen (system_signals (design_of c.args.design.now)) c.seen-signal-items.ensures.seen k
    c.loop-signal-test.true)
