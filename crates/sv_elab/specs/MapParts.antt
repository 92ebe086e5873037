-- Private: how the code goes. The parts of a label map's walk, and the table that its rows fill.
use Rattle.std.specs.Prelude.{◌≡◌, ℕ, ◌+◌, ◌^◌, ◌<◌, ◌≤◌, Bool, true, ◌&&◌, ◌||◌, nat_le, List, []}
use Rattle.std.specs.Prelude.{map, Option, Some, None, option_map, unwrap_or, is_some, length}
use Rattle.std.specs.Prelude.{slice_index_or, pos, Ok}
use Rattle.std.specs.List.{list_all}
use Rattle.sv_num.specs.declared.vectors.Bits.{Bits}
use Rattle.sv_num.specs.Vectors.{number_of}
use Rattle.sv_lattice.specs.declared.points.Point.{Point}
use Rattle.sv_lattice.specs.Maps.{MapRows}
use Rattle.sv_ast.specs.Tree.{SpanTree, RowTree, MapTree}
use Rattle.sv_ast.specs.Instances.{span_width}
use Rattle.sv_elab_rules.specs.Walks.{Walk, ask, done, ◌>>=◌}
use Rattle.sv_elab_rules.specs.Rules.{map_row, map_hole}
use Rattle.sv_elab_rules.specs.Lattices.{point_number}
use Rattle.sv_elab_rules.specs.LabelMaps.{no_names, is_map_range, is_second_range, is_key, is_second_key}
use Rattle.sv_elab_rules.specs.LabelMaps.{key_value, point_at, rows_walk, default_walk, all_rows}
use Rattle.sv_elab_rules.specs.LabelMaps.{has_all_rows}
use Rattle.sv_elab.specs.declared.maps.Ranges.{Ranges}

-- the widths of the ranges
abbrev pub first_width : MapTree → ℕ
first_width t = span_width no_names (Some t.span)

abbrev pub second_width : MapTree → Option ℕ
second_width t = option_map (λ span. span_width no_names (Some span)) t.second

-- how many bits the ranges have in all
abbrev pub bits_in : (first : ℕ) → (second : Option ℕ) → ℕ
bits_in first second = first + unwrap_or second 0

abbrev pub bits_of : MapTree → ℕ
bits_of t = bits_in (first_width t) (second_width t)

-- the ranges keep rule 307
abbrev pub has_ranges : MapTree → Bool
has_ranges t = is_map_range t.span && is_second_range t.second && nat_le (bits_of t) 8

-- the width is that of the range
abbrev pub IsRange : SpanTree → ℕ → Type 0
IsRange span width =
    (is_map_range span ≡ true) × (width ≡ span_width no_names (Some span)) × (1 ≤ width)
    × (width ≤ 8)

-- the widths are those of the map's ranges
abbrev pub HasWidths : MapTree → Ranges → Type 0
HasWidths t r = (has_ranges t ≡ true) × (r.first ≡ first_width t) × (r.second ≡ second_width t)

-- a key of the map's ranges
abbrev pub is_row_key : (first : ℕ) → (second : Option ℕ) → RowTree → Bool
is_row_key first second row = is_key first row.first && is_second_key second row.second

-- the value is that of the bits, by their own signedness, and fits the width
abbrev pub IsPart : (width : ℕ) → Bits → ℕ → Type 0
IsPart width bits value = (number_of bits ≡ pos value) × (value < 2 ^ width)

-- the value is that of the row's key
abbrev pub IsValue : (first : ℕ) → (second : Option ℕ) → RowTree → ℕ → Type 0
IsValue first second row value =
    (is_row_key first second row ≡ true) × (value ≡ key_value second row)
    × (value < 2 ^ bits_in first second)

-- the point of a value in the table
abbrev pub table_point : Option ℕ → Option Point
table_point n = option_map (λ (k : ℕ). record { 0 = k }) n

-- the table has, for each value of so many bits, the point that the rows give it
pub record IsTable (bits : ℕ) (rows : List (ℕ × ℕ)) (table : List (Option Point)) : Type 0 where
  pub size : length table ≡ 2 ^ bits
  pub points : (value : ℕ) (d : Option Point) → value < 2 ^ bits →
      slice_index_or table value d ≡ table_point (point_at rows value)

-- the key does not fit, its value has a point, or the row's point is none
abbrev pub IsWrongRow : (points : List (List ℕ)) → (first : ℕ) → (second : Option ℕ) →
    List (Option Point) → RowTree → Type 0
IsWrongRow points first second table row =
    is_row_key first second row ≡ true → slice_index_or table (key_value second row) None ≡ None →
    point_number points row.to ≡ None

-- the row has this value and point, and the value has no point yet
pub record IsRow (points : List (List ℕ)) (first : ℕ) (second : Option ℕ)
    (table : List (Option Point)) (row : RowTree) (value : ℕ) (point : Point) : Type 0 where
  pub key : IsValue first second row value
  pub free : slice_index_or table value None ≡ None
  pub named : point_number points row.to ≡ Some point.0

-- the table has the points of the map's rows
abbrev pub AreFilled : (points : List (List ℕ)) → MapTree → (first : ℕ) → (second : Option ℕ) →
    List (Option Point) → Type 0
AreFilled points t first second table =
    (rows : List (ℕ × ℕ)) × ((rows_walk points t first second [] t.rows).end ≡ Ok rows)
    × IsTable (bits_in first second) rows table

-- whether each value has a point, in the table or by default
abbrev pub is_whole : List (Option Point) → (other : Option Point) → Bool
is_whole table other = is_some other || list_all is_some table

-- the points of all values
abbrev pub points_in : List (Option Point) → (other : Option Point) → List Point
points_in table other = map (λ p. unwrap_or p (unwrap_or other (record { 0 = 0 }))) table

-- the walk of a map whose name is new
abbrev pub own_walk : (points : List (List ℕ)) → MapTree → Walk MapRows
own_walk points t = do
  _ ← ask (has_ranges t) (map_row t.place t.name)
  rows ← rows_walk points t (first_width t) (second_width t) [] t.rows
  other ← default_walk points t t.other
  _ ← ask (is_some other || has_all_rows (bits_of t) rows) (map_hole t.place t.name)
  done (record {
    first = first_width t;
    second = second_width t;
    rows = all_rows (bits_of t) rows other;
  })
