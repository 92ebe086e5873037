-- What is asked of a design: which design, and which of its obligations. Nothing is released and no
-- fact is declared so far, so it is the design itself and its own obligations; `excess` of
-- `Limits.antt` in `sv_paths` is the limit on them.
use Rattle.std.specs.Prelude.{List, [], All}
use Rattle.sv_flat.specs.Design.{FlatDesign}
use Rattle.sv_obl.specs.Obligations.{Obligation, obligations}
use Rattle.sv_obl.specs.Validity.{IsValid}

abbrev pub asked_design : FlatDesign → FlatDesign
asked_design design = design

abbrev pub asked : FlatDesign → List Obligation
asked design = obligations [] (asked_design design)

-- all that is asked of it holds
abbrev pub AskedHold : FlatDesign → Type 0
AskedHold design = All (IsValid (asked_design design)) (asked design)
