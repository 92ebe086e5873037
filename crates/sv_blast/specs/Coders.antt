-- Which encoding a coder holds, and when it is a coder of a design.
use Rattle.std.specs.Prelude.{[], Option, Some, None, IfSome}
use Rattle.sv_flat.specs.Design.{FlatDesign}
use Rattle.sv_obl.specs.MarkedBodies.{AreBodiesOf}
use Rattle.sv_encoding.specs.Encoding.{Encoding}
use Rattle.sv_blast.specs.ConeSizes.{AreSizes}
use Rattle.sv_blast.specs.Framed.{encoding_made, IsFramed}
use Rattle.sv_blast.specs.declared.coder.Coder.{Coder}
use Rattle.sv_blast.specs.declared.framed.Framed.{Framed}

-- the encoding that was made last, and nothing where none was
abbrev pub last_encoding : Option Framed → Encoding
last_encoding (Some made) = encoding_made made
last_encoding None = record { variables = 0; bits = []; clauses = [] }

-- that of a coder
abbrev pub encoding_in : Coder → Encoding
encoding_in coder = last_encoding coder.made

-- a coder of a design, with its bodies and the sizes of its signals; what was made last begins with
-- the frames of its cones
pub record IsCoder (design : FlatDesign) (coder : Coder) : Type 0 where
  pub bodies : AreBodiesOf design coder.bodies.now
  pub sizes : AreSizes design coder.sizes.items
  pub made : IfSome coder.made (IsFramed design)
