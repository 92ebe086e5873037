-- Private: how the code goes. Tables that say of each signal whether it is marked.
use Rattle.std.specs.Prelude.{◌≡◌, ◌<◌, ℕ, Bool, false, ◌||◌, List, length, slice_index_or}
use Rattle.sv_flat.specs.Sets.{those}

-- the table has the signal
abbrev pub is_marked : List Bool → ℕ → Bool
is_marked table s = slice_index_or table s false

-- the signals that the table has, in order
abbrev pub followed_in : List Bool → List ℕ
followed_in table = those (length table) (is_marked table)

-- the second table has the signals of the first, and those that pass a test
abbrev pub Marks : (old new : List Bool) → (more : ℕ → Bool) → Type 0
Marks old new more = (s : ℕ) → s < length old → is_marked new s ≡ (is_marked old s || more s)

-- the table says of each of n signals whether it passes the test
abbrev pub IsTable : (n : ℕ) → List Bool → (test : ℕ → Bool) → Type 0
IsTable n table test = (length table ≡ n) × ((s : ℕ) → s < n → is_marked table s ≡ test s)
