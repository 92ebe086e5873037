-- What holds of every admitted design.
use Rattle.std.specs.Prelude.{IsTrue}
use Rattle.sv_flat.specs.Design.{FlatDesign}
use Rattle.sv_flat.specs.Soundness.{sound}
use Rattle.sv_flat.specs.Admission.{IsAdmitted}

-- it is sound, and none of the rules is broken
pub record IsDesign (design : FlatDesign) : Type 0 where
  pub is_sound : IsTrue (sound design)
  pub is_admitted : IsAdmitted design
