-- The walk of the label maps: each has one or two ranges of selectors, and a point for each of
-- their values (this project's profile).
use Rattle.std.specs.Prelude.{ℕ, ◌+◌, ◌*◌, ◌^◌, Bool, true, false, not, ◌&&◌, ◌||◌, ◌==◌, nat_le}
use Rattle.std.specs.Prelude.{List, [], ◌∷◌, ◌++◌, map, find, Option, Some, None, option_map}
use Rattle.std.specs.Prelude.{unwrap_or, is_some, is_none, ℤ}
use Rattle.std.specs.List.{list_all, list_any}
use Rattle.std.specs.Str.{bytes_eq}
use Rattle.sv_num.specs.Vectors.{as_number}
use Rattle.sv_lattice.specs.declared.points.Point.{Point}
use Rattle.sv_lattice.specs.Maps.{MapRows}
use Rattle.sv_ast.specs.Scopes.{Scope}
use Rattle.sv_ast.specs.Tree.{SpanTree, KeyTree, RowTree, MapTree}
use Rattle.sv_ast.specs.Values.{natural, whole_number}
use Rattle.sv_ast.specs.Instances.{span_width}
use Rattle.sv_elab_rules.specs.Walks.{Walk, done, ask, found, ◌>>=◌}
use Rattle.sv_elab_rules.specs.Rules.{map_name, map_row, map_hole}
use Rattle.sv_elab_rules.specs.ExpressionSteps.{is_below}
use Rattle.sv_elab_rules.specs.Declarations.{is_range}
use Rattle.sv_elab_rules.specs.Lattices.{point_number}
use Rattle.sv_elab_rules.specs.CaseChains.{numbers_below}

-- the ranges of label maps name nothing
abbrev pub no_names : Scope
no_names n = None

-- a range of a map is `[m:0]` with m from 0 to 7
abbrev pub is_map_range : SpanTree → Bool
is_map_range span = is_range 8 (whole_number no_names span.high) (whole_number no_names span.low)

abbrev pub is_second_range : Option SpanTree → Bool
is_second_range None = true
is_second_range (Some span) = is_map_range span

-- a part of a key as a whole number, by its own signedness
abbrev pub key_number : KeyTree → ℤ
key_number key = as_number key.value.width key.value.signed key.value.value

-- a part of a key is a value of so many bits
abbrev pub is_key : (width : ℕ) → KeyTree → Bool
is_key width key = is_below (2 ^ width) (key_number key)

-- there is a second part exactly where there is a second range
abbrev pub is_second_key : Option ℕ → Option KeyTree → Bool
is_second_key None None = true
is_second_key None (Some key) = false
is_second_key (Some width) None = false
is_second_key (Some width) (Some key) = is_key width key

-- the value of a second part, 0 without one
abbrev pub second_value : Option KeyTree → ℕ
second_value None = 0
second_value (Some key) = natural (key_number key)

-- the value of a key: of the pair of its parts, the second has the low bits
abbrev pub key_value : Option ℕ → RowTree → ℕ
key_value second row =
    natural (key_number row.first) * 2 ^ unwrap_or second 0 + second_value row.second

-- the number of the point of a value, by the rows
abbrev pub point_at : List (ℕ × ℕ) → ℕ → Option ℕ
point_at rows value =
    option_map (λ (row : ℕ × ℕ). row.1) (find (λ (row : ℕ × ℕ). row.0 == value) rows)

-- the rows of a map after earlier ones, each as its key's value and its point's number
unfoldable pub rows_walk : (points : List (List ℕ)) → MapTree → (first : ℕ) → (second : Option ℕ)
    → (earlier : List (ℕ × ℕ)) → List RowTree → Walk (List (ℕ × ℕ))
rows_walk points t first second earlier [] = done earlier
rows_walk points t first second earlier (row ∷ rows) = do
  _ ← ask (is_key first row.first && is_second_key second row.second) (map_row t.place t.name)
  _ ← ask (is_none (point_at earlier (key_value second row))) (map_row t.place t.name)
  point ← found (point_number points row.to) (map_row t.place t.name)
  rows_walk points t first second (earlier ++ (key_value second row, point) ∷ []) rows

-- the point of the keys without a row
unfoldable pub default_walk : (points : List (List ℕ)) → MapTree → Option (List ℕ) → Walk (Option ℕ)
default_walk points t None = done None
default_walk points t (Some n) = do
  point ← found (point_number points n) (map_row t.place t.name)
  done (Some point)

-- the points of all values of so many bits, in order
abbrev pub all_rows : (bits : ℕ) → List (ℕ × ℕ) → (other : Option ℕ) → List Point
all_rows bits rows other =
    map (λ value. record { 0 = unwrap_or (point_at rows value) (unwrap_or other 0) })
    (numbers_below (2 ^ bits))

-- whether each value of so many bits has a row
abbrev pub has_all_rows : (bits : ℕ) → List (ℕ × ℕ) → Bool
has_all_rows bits rows =
    list_all (λ value. is_some (point_at rows value)) (numbers_below (2 ^ bits))

-- whether a map of that name was declared
abbrev pub is_map : List (List ℕ × MapRows) → List ℕ → Bool
is_map maps n = list_any (λ (m : List ℕ × MapRows). bytes_eq n m.0) maps

-- a label map, where maps of some names were declared before
unfoldable pub map_walk : (points : List (List ℕ)) → (earlier : List (List ℕ × MapRows)) → MapTree
    → Walk MapRows
map_walk points earlier t =
    let first = span_width no_names (Some t.span) in
    let second = option_map (λ span. span_width no_names (Some span)) t.second in
    let bits = first + unwrap_or second 0 in do
      _ ← ask (not (is_map earlier t.name)) (map_name t.place t.name)
      _ ← ask (is_map_range t.span && is_second_range t.second && nat_le bits 8)
          (map_row t.place t.name)
      rows ← rows_walk points t first second [] t.rows
      other ← default_walk points t t.other
      _ ← ask (is_some other || has_all_rows bits rows) (map_hole t.place t.name)
      done (record { first = first; second = second; rows = all_rows bits rows other })

-- the maps of a text after earlier ones, each with its name
unfoldable pub maps_walk : (points : List (List ℕ)) → (earlier : List (List ℕ × MapRows))
    → List MapTree
    → Walk (List (List ℕ × MapRows))
maps_walk points earlier [] = done earlier
maps_walk points earlier (t ∷ ts) = do
  rows ← map_walk points earlier t
  maps_walk points (earlier ++ (t.name, rows) ∷ []) ts
