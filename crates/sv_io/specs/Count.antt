-- Counts of calls and of faults.
use Rattle.std.specs.Prelude.{◌≡◌, ℕ, ◌+◌, ◌<◌, ◌⊎◌, ◌==◌, Bool, List, min}
use Rattle.std.specs.List.{list_any}

-- a count rose in a call: it is greater than before, or stands at the greatest u64
abbrev pub Rose : ℕ → ℕ → Type 0
Rose old new = (old < new) ⊎ (new ≡ 18446744073709551615)

-- one more, up to the greatest u64
abbrev pub one_more : ℕ → ℕ
one_more count = min (count + 1) 18446744073709551615

-- whether the call with this number is one of those that fail
abbrev pub is_failing : List ℕ → ℕ → Bool
is_failing failing number = list_any (λ other. other == number) failing
