-- The selectors of a label, and the labels that flow to every row of another (SecVerilog, ASPLOS
-- 2015, dependent labels).
use Rattle.std.specs.Prelude.{ℕ, Bool, false, List, [], ◌∷◌, Some, None}
use Rattle.std.specs.List.{list_all}
use Rattle.sv_lattice.specs.declared.points.Point.{Point}
use Rattle.sv_lattice.specs.declared.labels.Label.{Label}
use Rattle.sv_lattice.specs.declared.labels.Label.TheVariants.{Point as Declared, Table}
use Rattle.sv_lattice.specs.Maps.{MapRows}
use Rattle.sv_lattice.specs.Labels.{map_of}
use Rattle.sv_lattice.specs.Tables.{flow_test}
use Rattle.sv_flat.specs.Design.{FlatDesign}
use Rattle.sv_flat.specs.Values.{signal_of}

-- the signals that select the row of a label
abbrev pub selectors_of : Label → List ℕ
selectors_of (Declared point) = []
selectors_of (Table map first None) = first ∷ []
selectors_of (Table map first (Some second)) = first ∷ second ∷ []

-- the label is a point that flows to every row of the map
abbrev pub flows_to_rows : List ℕ → MapRows → Label → Bool
flows_to_rows lattice rows (Declared point) =
    list_all (λ (row : Point). flow_test lattice point.0 row.0) rows.rows
flows_to_rows lattice rows (Table map first second) = false

-- the map of a label
abbrev pub rows_of : FlatDesign → Label → MapRows
rows_of design (Declared point) = map_of design.maps 0
rows_of design (Table map first second) = map_of design.maps map

-- the selector's label is a point that flows to every row of the map
abbrev pub always_flows : FlatDesign → (signal selector : ℕ) → Bool
always_flows design s t =
    flows_to_rows design.lattice (rows_of design (signal_of design.signals s).label)
    (signal_of design.signals t).label
