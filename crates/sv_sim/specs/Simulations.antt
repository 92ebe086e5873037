-- A simulation as a contract sees it.
use Rattle.std.specs.Prelude.{◌≡◌, ℕ, Bool, IsTrue, List, slice_index_or}
use Rattle.sv_system.specs.System.{IsStill}
use Rattle.sv_flat.specs.declared.designs.Flat.{Flat}
use Rattle.sv_flat.specs.Design.{ProcessForm, continuous, nothing, FlatDesign}
use Rattle.sv_flat.specs.ByNumber.{by_number, FitSignals}
use Rattle.sv_flat.specs.Clocks.{is_clock, processes_of}
use Rattle.sv_flat.specs.FlatSystem.{flat_system}

-- the design, the value of each of its signals by number, and whether these are settled
pub record Simulation : Type 0 where
  pub design : Flat
  pub values : List ℕ
  pub is_settled : Bool

-- what holds of every simulation
pub record IsSimulation (design : FlatDesign) (values : List ℕ) (is_settled : Bool) :
    Type 0 where
  pub fit : FitSignals design.signals values
  pub clocks : (s : ℕ) → IsTrue (is_clock design s) → by_number values s ≡ 0
  pub still : IsTrue is_settled → IsStill (flat_system design) (by_number values)

-- the process at a place; past the end one that does nothing
abbrev pub process_at : FlatDesign → ℕ → ProcessForm
process_at design place = slice_index_or (processes_of design) place (record {
  place = record { line = 0; column = 0 };
  kind = continuous;
  body = nothing;
})
