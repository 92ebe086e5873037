use Rattle.std.proofs.Common.{◌≡◌, ◌++◌, true, ◌&&◌, map, drop}
use Rattle.sv_system.specs.System.{view}
use Rattle.sv_system.proofs.Lists.{told}
use Rattle.sv_flat.specs.ByNumber.{by_number}
use Rattle.sv_flat.specs.FlatSystem.{flat_system}
use Rattle.sv_flat.specs.Views.{design_of}
use Rattle.sv_design.specs.Numbers.{numbers}
use Rattle.sv_tworun.specs.Forms.{pair_form}
use Rattle.sv_tworun.proofs.levels.view.Given as goal

abbrev pub invariant-loop-signal : goal.invariant-loop-signal
invariant-loop-signal l =
    let system = flat_system (design_of l.sim.design) in
    let e = by_number l.sim.values in
    map pair_form l.pairs.items
    ++ told (λ s. true && system.flows (system.label s e) l.level) e
    (numbers (drop l.signal-index l.signal-items))
    ≡ view system l.level e
