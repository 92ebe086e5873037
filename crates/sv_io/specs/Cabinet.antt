-- What a cabinet holds under its names.
use Rattle.std.specs.Prelude.{◌≡◌, ℕ, List, [], take, Option, Some, Result, Ok, Err, unwrap_or, ◌⊎◌}
use Rattle.std.specs.Global.{Vec}
use Rattle.sv_io.specs.declared.faults.FetchFault.{FetchFault}
use Rattle.sv_io.specs.declared.faults.FetchFault.TheVariants.{Failed, Long, OutOfMemory}

-- the bytes under a name; a name that is not held has none
abbrev pub bytes_under : (List ℕ → Option (List ℕ)) → List ℕ → List ℕ
bytes_under held name = unwrap_or (held name) []

-- the bytes that a too long answer carries have P
abbrev pub IfLong : Result (Vec ℕ) FetchFault → (List ℕ → Type 0) → Type 0
IfLong (Ok bytes) P = Unit {0}
IfLong (Err Failed) P = Unit {0}
IfLong (Err (Long bytes)) P = P bytes.items
IfLong (Err OutOfMemory) P = Unit {0}

-- where a fetch answers with bytes, all of them or the first of too many, this holds
abbrev pub IfAnswered : Result (Vec ℕ) FetchFault → Type 0 → Type 0
IfAnswered (Ok bytes) P = P
IfAnswered (Err Failed) P = Unit {0}
IfAnswered (Err (Long bytes)) P = P
IfAnswered (Err OutOfMemory) P = Unit {0}

-- a name holds what it held before, or the first few of the new bytes
abbrev pub KeepsOrBegins : Option (List ℕ) → List ℕ → Option (List ℕ) → Type 0
KeepsOrBegins old bytes new = (new ≡ old) ⊎ ((count : ℕ) × (new ≡ Some (take count bytes)))
