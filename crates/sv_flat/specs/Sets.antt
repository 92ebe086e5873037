-- Sets of numbers, as lists in ascending order (this project's profile).
use Rattle.std.specs.Prelude.{ℕ, zero, suc, Bool, ◌==◌, ◌||◌, List, filter}
use Rattle.std.specs.List.{list_any, range_with_len}

-- whether the number is in the set
abbrev pub holds : List ℕ → ℕ → Bool
holds set k = list_any (λ m. m == k) set

-- the numbers below n that pass a test
abbrev pub those : ℕ → (ℕ → Bool) → List ℕ
those n test = filter test (range_with_len 0 n)

-- the set with those numbers below n that some member of it brings along
abbrev pub with_brought : ℕ → (ℕ → ℕ → Bool) → List ℕ → List ℕ
with_brought n brings set = those n (λ k. holds set k || list_any (λ m. brings m k) set)

-- likewise, so many times
abbrev pub with_all_brought : ℕ → (ℕ → ℕ → Bool) → List ℕ → (times : ℕ) → List ℕ
with_all_brought n brings set zero = set
with_all_brought n brings set (suc times) =
    with_brought n brings (with_all_brought n brings set times)

-- The least set with some first numbers, all below n, and with every number below n that one of its
-- members brings along: each of n steps but the last adds a number, or none is left to add.
abbrev pub least_set : ℕ → (brings : ℕ → ℕ → Bool) → (first : List ℕ) → List ℕ
least_set n brings first = with_all_brought n brings first n
