-- Label maps: a row for each value of a range, or for each pair of values of two ranges (this
-- project's profile).
use Rattle.std.specs.Prelude.{◌≡◌, ℕ, ◌+◌, ◌*◌, ◌≤◌, ◌^◌, List, length, slice_index_or, Option}
use Rattle.std.specs.Prelude.{Some, None, unwrap_or}
use Rattle.sv_lattice.specs.declared.points.Point.{Point}

-- a label map: the width of its first range, that of its second where it has two, and its rows
pub record MapRows : Type 0 where
  pub first : ℕ
  pub second : Option ℕ
  pub rows : List Point

-- each range has at least 1 bit, both together at most 8, and there is a row for each value of so
-- many bits
abbrev pub IsMap : ℕ → Option ℕ → List Point → Type 0
IsMap first None rows = (1 ≤ first) × (first ≤ 8) × (length rows ≡ 2 ^ first)
IsMap first (Some second) rows =
    (1 ≤ first) × (1 ≤ second) × (first + second ≤ 8) × (length rows ≡ 2 ^ (first + second))

-- the row at a value
abbrev pub row_of : MapRows → ℕ → Point
row_of map value = slice_index_or map.rows value (record { 0 = 0 })

-- the value of a pair: the first value times 2 to the width of the second range, plus the second
-- value
abbrev pub pair_value : MapRows → ℕ → ℕ → ℕ
pair_value map first second = first * 2 ^ unwrap_or map.second 0 + second
