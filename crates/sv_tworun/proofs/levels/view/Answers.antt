use Rattle.std.proofs.Common.{ℕ, true, ◌&&◌, not, List, ◌++◌, map, length, ap, ap₂, ◌∙◌}
use Rattle.sv_system.proofs.Lists.{told}
use Rattle.sv_flat.specs.declared.designs.Flat.{Flat}
use Rattle.sv_flat.specs.declared.signals.SigId.{SigId}
use Rattle.sv_flat.specs.ByNumber.{by_number}
use Rattle.sv_flat.specs.Clocks.{is_clock}
use Rattle.sv_flat.specs.FlatSystem.{flat_system}
use Rattle.sv_flat.specs.SignalLists.{system_signals}
use Rattle.sv_flat.specs.Views.{design_of}
use Rattle.sv_design.specs.Numbers.{numbers}
use Rattle.sv_tworun.specs.Forms.{pair_form}
use Rattle.sv_sim.proofs.ListedSignals.{inside_of}
use Rattle.sv_tworun.proofs.DifferenceFacts.{listed_inside}
use Rattle.sv_tworun.proofs.levels.view.Goals as goal

pub loop-signal-init : goal.loop-signal-init
loop-signal-init c =
    let system = flat_system (design_of c.args.sim.now.design) in
    let e = by_number c.args.sim.now.values in
    ap₂ (λ (pairs : List (SigId × ℕ)) ss. map pair_form pairs
    ++ told (λ s. true && system.flows (system.label s e) c.args.level) e ss)
    c.new-pairs.ensures.items
    (c.seen-signal-items.ensures.seen
    ∙ ap (λ (d : Flat). system_signals (design_of d)) c.design-design.ensures)

pub sight-requires-clause-signal : goal.sight-requires-clause-signal
sight-requires-clause-signal c =
    let flat = c.design-design.result.now in
    inside_of (length flat.signals.items) c.seen-signal-items.result.now
    (listed_inside flat (λ s. not (is_clock (design_of flat) s))
    (numbers c.seen-signal-items.result.now) c.seen-signal-items.ensures.seen)
    c.loop-signal.signal-index c.loop-signal-test.true
