-- Private: how the code goes. A clause that is false.
use Rattle.std.specs.Prelude.{ℕ, ◌<◌, ℤ, List, [], length, slice_index_or}
use Rattle.sv_solve.specs.Search.{AllFalse}

-- the clause at the place is false
abbrev pub IsConflict : List (List ℤ) → List ℤ → ℕ → Type 0
IsConflict clauses literals place =
    (place < length clauses) × AllFalse literals (slice_index_or clauses place [])
