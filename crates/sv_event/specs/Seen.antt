-- Private: how the code goes. Words for how a list is looked through for each of some numbers. What
-- an order is is said in sv_flat/specs/Schedules.antt.
use Rattle.std.specs.Prelude.{ℕ, Bool, false, ◌==◌, if◌then◌else◌, List, count_by, slice_index_or}

-- whether the number stands in the list once
abbrev pub stands_once : List ℕ → ℕ → Bool
stands_once order k = count_by (λ m. m == k) order == 1

-- how often the number at a place of a table of marks was seen: once at most
abbrev pub times_seen : List Bool → ℕ → ℕ
times_seen seen place = if slice_index_or seen place false then 1 else 0
