-- What a source gives.
use Rattle.std.specs.Prelude.{◌≡◌, Bool, IsFalse, List, ℕ, ◌++◌}

-- Where the input has not ended, this holds of the bytes that were given, whatever follows them.
abbrev pub WhateverFollows : (ended : Bool) → (given_old given_new : List ℕ) →
    (Holds : (bytes : List ℕ) → Type 0) → Type 0
WhateverFollows ended given_old given_new Holds =
    IsFalse ended → (taken more : List ℕ) → given_new ≡ given_old ++ taken → Holds (taken ++ more)
