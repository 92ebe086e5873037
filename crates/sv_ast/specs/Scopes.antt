-- What the names of a module stand for inside one instance of it (IEEE 1364-2005, clause 12.7).
use Rattle.std.specs.Prelude.{ℕ, Bool, false, List, Option, Some, None}

-- a value at its length and signedness
pub record Number : Type 0 where
  pub width : ℕ
  pub signed : Bool
  pub value : ℕ

-- a name stands for a parameter with its value, or for a signal with its length and signedness
pub data Binding : Type 0 where
  parameter : Number → Binding
  signal : (width : ℕ) → (signed : Bool) → Binding

abbrev pub Scope : Type 0
Scope = List ℕ → Option Binding

-- the length of what a name stands for; a name that stands for nothing is refused, and has no
-- length
abbrev pub width_of : Option Binding → ℕ
width_of (Some (parameter n)) = n.width
width_of (Some (signal width signed)) = width
width_of None = 0

abbrev pub is_signed : Option Binding → Bool
is_signed (Some (parameter n)) = n.signed
is_signed (Some (signal width signed)) = signed
is_signed None = false

-- the value of what a name stands for, where the signal of that name has the given one
abbrev pub value_of : Option Binding → ℕ → ℕ
value_of (Some (parameter n)) current = n.value
value_of (Some (signal width signed)) current = current
value_of None current = 0
