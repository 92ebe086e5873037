-- Pairs of values that fit the ranges of a map.
use Rattle.std.proofs.Common.{ℕ, ◌+◌, ◌*◌, ◌%◌, ◌<◌, ◌^◌, List, length, Option, Some, None}
use Rattle.std.proofs.Common.{unwrap_or, arith}
use Rattle.std.proofs.lemmas.Nat.{mul-add-lt, pow-add, shl_whole}
use Rattle.sv_lattice.specs.declared.points.Point.{Point}
use Rattle.sv_lattice.specs.Maps.{IsMap}

-- the value of a pair is the number of a row, also where the first value is moved up within 64 bits
pub pair_has_row : (first : ℕ) (second : Option ℕ) (rows : List Point) (a b : ℕ) →
    IsMap first second rows → a < 2 ^ first → b < 2 ^ unwrap_or second 0 →
    a * 2 ^ unwrap_or second 0 % 2 ^ 64 + b < length rows
pair_has_row first None rows a b map fits fits_second =
    omega (arith, map.2, shl_whole a first 0 64 fits (omega (arith, map.1)))
pair_has_row first (Some second) rows a b map fits fits_second =
    omega (
      arith,
      map.3,
      pow-add 2 first second,
      shl_whole a first second 64 fits (omega (arith, map.2)),
      mul-add-lt a (2 ^ second) b (2 ^ first) fits fits_second,
    )
