use Rattle.std.proofs.Common.{subst}
use Rattle.std.specs.Prelude.{IsTrue}
use Rattle.sv_system.specs.System.{IsStill}
use Rattle.sv_flat.specs.ByNumber.{by_number}
use Rattle.sv_flat.specs.FlatSystem.{flat_system}
use Rattle.sv_flat.specs.Views.{design_of}
use Rattle.sv_sim.specs.Simulations.{Simulation}
use Rattle.sv_sim.proofs.sim.Sim.settled.Goals as goal

pub returns-clause-still : goal.returns-clause-still
returns-clause-still c =
    subst (λ (v : Simulation). IsTrue c.self.inside.is_settled →
    IsStill (flat_system (design_of v.design)) (by_number v.values)) c.self.view_is
    (c.self.invariant.0).still
