-- Private: how the code goes. What an encoder holds.
use Rattle.std.specs.Prelude.{◌≡◌}
use Rattle.sv_flat.specs.Design.{FlatDesign}
use Rattle.sv_flat.specs.Views.{design_of}
use Rattle.sv_design.specs.Numbers.{numbers}
use Rattle.sv_obl.specs.DesignQueries.{IsQueryOf}
use Rattle.sv_obl.specs.MarkedBodies.{AreBodiesOf}
use Rattle.sv_obl.specs.Obligations.{Obligation}
use Rattle.sv_obl.specs.Views.{obligation_of}
use Rattle.sv_encoding.specs.Cones.{now_cone, next_cone}
use Rattle.sv_blast.specs.ConeSizes.{AreSizes}
use Rattle.sv_blast.specs.declared.encoding.Encoder.{Encoder}

-- the design and the obligation
abbrev pub design_in : Encoder → FlatDesign
design_in encoder = design_of encoder.design.now

abbrev pub obligation_in : Encoder → Obligation
obligation_in encoder = obligation_of encoder.query.now

-- an obligation of the design, with its cones, the design's bodies and the sizes of its signals
pub record IsEncoder (encoder : Encoder) : Type 0 where
  pub query : IsQueryOf (design_in encoder) (obligation_in encoder)
  pub bodies : AreBodiesOf (design_in encoder) encoder.bodies.now
  pub sizes : AreSizes (design_in encoder) encoder.sizes.now
  pub now : numbers encoder.now_cone.items ≡ now_cone (design_in encoder) (obligation_in encoder)
  pub next : numbers encoder.next_cone.items ≡ next_cone (design_in encoder) (obligation_in encoder)
