-- What passes between the program and a cabinet.
use Rattle.std.specs.Prelude.{ℕ, Bool, true, false, List, Result, Ok, Err}
use Rattle.std.specs.Global.{Vec}
use Rattle.sv_io.specs.declared.faults.FetchFault.{FetchFault}
use Rattle.sv_io.specs.declared.faults.FetchFault.TheVariants.{Failed, Long, OutOfMemory}

-- what a fetch handed out: all the bytes; the first of more bytes than were asked for; or nothing,
-- where it failed or had no memory
pub data Fetched : Type 0 where
  whole : List ℕ → Fetched
  too_long : List ℕ → Fetched
  nothing : Fetched

-- one call of a cabinet: a fetch of a name, and what it handed out; or a store of bytes under a
-- name, and whether it was done
pub data Exchange : Type 0 where
  fetched : List ℕ → Fetched → Exchange
  stored : List ℕ → List ℕ → Bool → Exchange

-- what the result of a fetch hands out
abbrev pub fetched_of : Result (Vec ℕ) FetchFault → Fetched
fetched_of (Ok bytes) = whole bytes.items
fetched_of (Err Failed) = nothing
fetched_of (Err (Long bytes)) = too_long bytes.items
fetched_of (Err OutOfMemory) = nothing

-- whether a call was done
abbrev pub is_done : {A E : Type 0} → Result A E → Bool
is_done (Ok value) = true
is_done (Err fault) = false
