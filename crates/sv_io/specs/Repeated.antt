-- A list, so many times.
use Rattle.std.specs.Prelude.{ℕ, zero, suc, List, [], ◌++◌}

abbrev pub repeated : ℕ → List ℕ → List ℕ
repeated zero line = []
repeated (suc times) line = line ++ repeated times line
