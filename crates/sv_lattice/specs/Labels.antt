-- The label of a signal: a declared point, or the row of a map at the value of a signal or of a
-- pair of signals (SecVerilog, ASPLOS 2015).
use Rattle.std.specs.Prelude.{ℕ, ◌<◌, ◌^◌, List, [], length, slice_index, slice_index_or, Option}
use Rattle.std.specs.Prelude.{Some, None}
use Rattle.sv_lattice.specs.declared.points.Point.{Point}
use Rattle.sv_lattice.specs.declared.labels.Label.{Label}
use Rattle.sv_lattice.specs.declared.labels.Label.TheVariants.{Point as Declared, Table}
use Rattle.sv_lattice.specs.Maps.{MapRows, row_of, pair_value}

-- the map with this number
abbrev pub map_of : List MapRows → ℕ → MapRows
map_of maps k = slice_index_or maps k (record { first = 0; second = None; rows = [] })

-- the selector is a signal, and its value fits a range of this width
abbrev pub FitsRange : List ℕ → ℕ → ℕ → Type 0
FitsRange values selector width =
    (selector < length values) × (slice_index values selector < 2 ^ width)

-- there is a second selector exactly where there is a second range, and it fits the range
abbrev pub FitsSecond : List ℕ → Option ℕ → Option ℕ → Type 0
FitsSecond values None None = Unit {0}
FitsSecond values None (Some width) = ⊥
FitsSecond values (Some selector) None = ⊥
FitsSecond values (Some selector) (Some width) = FitsRange values selector width

-- the label's map is in range, and its selectors fit the ranges of the map, one for each
abbrev pub IsReadable : List MapRows → Label → List ℕ → Type 0
IsReadable maps (Declared point) values = Unit {0}
IsReadable maps (Table map first second) values =
    (map < length maps)
    × FitsRange values first (map_of maps map).first
    × FitsSecond values second (map_of maps map).second

-- the label where the signals have these values: the declared point, or the map's row at the value
-- of the selector, or of the pair of selectors
abbrev pub label_of : List MapRows → Label → List ℕ → Point
label_of maps (Declared point) values = point
label_of maps (Table map first None) values = row_of (map_of maps map) (slice_index values first)
label_of maps (Table map first (Some second)) values =
    let rows = map_of maps map in
    row_of rows (pair_value rows (slice_index values first) (slice_index values second))
