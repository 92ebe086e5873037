-- Why a flat design was not admitted.
use Rattle.std.specs.Prelude.{}
use Rattle.sv_num.specs.declared.faults.Fault.{Fault}
use Rattle.sv_num.specs.declared.faults.Fault.TheVariants.{Rule, OutOfMemory}
use Rattle.sv_flat.specs.Design.{FlatDesign}
use Rattle.sv_flat.specs.Admission.{IsRefused}

-- a fault tells of the first rule that the design breaks; that memory ran out says nothing of the
-- design
abbrev pub IsFaultOf : FlatDesign → Fault → Type 0
IsFaultOf design (Rule r) = IsRefused design r.number r.place r.names.items
IsFaultOf design OutOfMemory = Unit {0}
