-- What valid obligations mean: no level learns more than it may (SecVerilog, ASPLOS 2015).
use Rattle.std.specs.Prelude.{◌≡◌, ℕ, IsTrue, List, map, All}
use Rattle.sv_system.specs.System.{Environment, IsTrace, LookAlike, view}
use Rattle.sv_lattice.specs.declared.points.Point.{Point}
use Rattle.sv_lattice.specs.Maps.{MapRows, IsMap}
use Rattle.sv_lattice.specs.Tables.{IsLatticeTable}
use Rattle.sv_flat.specs.Design.{TypedTree, FlatDesign}
use Rattle.sv_flat.specs.Soundness.{sound}
use Rattle.sv_flat.specs.Admission.{IsAdmitted}
use Rattle.sv_flat.specs.FlatSystem.{flat_system}
use Rattle.sv_obl.specs.Validity.{MeetsFacts}

-- the design is sound, breaks no rule, and has a lattice and label maps
pub record IsChecked (design : FlatDesign) : Type 0 where
  pub is_sound : IsTrue (sound design)
  pub admitted : IsAdmitted design
  pub lattice : IsLatticeTable design.lattice
  pub maps : All (λ (m : MapRows). IsMap m.first m.second m.rows) design.maps

-- any two traces that look alike to a level, and whose every environment meets the facts, have
-- equal views for it at every cycle
abbrev pub NoninterferentUnder : (facts : List TypedTree) → FlatDesign → Type 0
NoninterferentUnder facts design =
    (level : Point) (start1 start2 : Environment ℕ)
    (inputs1 inputs2 first second : List (Environment ℕ))
    → IsTrace (flat_system design) start1 inputs1 first
    → IsTrace (flat_system design) start2 inputs2 second
    → All (MeetsFacts design facts) first → All (MeetsFacts design facts) second
    → LookAlike (flat_system design) level first second
    → map (view (flat_system design) level) first ≡ map (view (flat_system design) level) second
