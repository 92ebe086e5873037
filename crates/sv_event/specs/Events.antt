-- An environment that is run process by process, as a contract sees it.
use Rattle.std.specs.Prelude.{◌≡◌, ℕ, true, false, List, length}
use Rattle.sv_flat.specs.declared.designs.Flat.{Flat}
use Rattle.sv_flat.specs.Design.{FlatDesign}
use Rattle.sv_flat.specs.ByNumber.{FitSignals}
use Rattle.sv_design.specs.Designs.{IsDesign}
use Rattle.sv_event.specs.Places.{ArePlaces}

-- the design, and the value of each of its signals by number
pub record EventState : Type 0 where
  pub design : Flat
  pub values : List ℕ

-- what holds of every such environment: the design is admitted, the places are those of its
-- combinational and of its clocked processes, the values fit, and there is room for other values
-- and a round's order
pub record IsEvent (design : FlatDesign) (combs clocked values other order : List ℕ) :
    Type 0 where
  pub admitted : IsDesign design
  pub combs_are : ArePlaces design false combs
  pub clocked_are : ArePlaces design true clocked
  pub fit : FitSignals design.signals values
  pub room : length other ≡ length values
  pub order_room : length order ≡ length combs
