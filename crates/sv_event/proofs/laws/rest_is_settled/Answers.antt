use Rattle.sv_system.proofs.Orders.{rest_is_settled}
use Rattle.sv_flat.specs.FlatSystem.{flat_system}
use Rattle.sv_flat.proofs.FlatScheduled.{flat_is_scheduled}
use Rattle.sv_sim.proofs.OneDesign.{design_ordered}
use Rattle.sv_event.proofs.laws.rest_is_settled.Goals as goal

pub returns : goal.returns
returns c design is =
    rest_is_settled (flat_system design) (design_ordered design is.is_sound is.is_admitted)
    (flat_is_scheduled design is.is_sound is.is_admitted)
