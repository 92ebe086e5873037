-- What the tables of a flat design have from a text's label maps (SecVerilog, ASPLOS 2015; which
-- keys a row has is this project's profile).
use Rattle.std.specs.Prelude.{◌≡◌, ℕ, ◌^◌, ◌<◌, Some, None, option_map}
use Rattle.std.specs.List.{slice_get}
use Rattle.sv_lattice.specs.Maps.{MapRows, row_of, pair_value}
use Rattle.sv_ast.specs.Tree.{SpanTree, MapTree, TextTree}
use Rattle.sv_ast.specs.Instances.{span_width}
use Rattle.sv_ast.specs.SourceLabels.{points, row_at}

-- the length of a selector's values, by a range that names nothing
abbrev pub selector_width : SpanTree → ℕ
selector_width span = span_width (λ n. None) (Some span)

-- the table of a label map: the lengths of its selectors and, at each of their values, the number
-- of the map's point
pub record IsTableOf (text : TextTree) (t : MapTree) (table : MapRows) : Type 0 where
  pub first : table.first ≡ selector_width t.span
  pub second : table.second ≡ option_map selector_width t.second
  pub row : (v : ℕ) → t.second ≡ None → v < 2 ^ table.first
      → row_at t v None ≡ slice_get (points text) (row_of table v).0
  pub row_of_two : (v w : ℕ) (span : SpanTree) → t.second ≡ Some span
      → v < 2 ^ table.first → w < 2 ^ selector_width span
      → row_at t v (Some w) ≡ slice_get (points text) (row_of table (pair_value table v w)).0
