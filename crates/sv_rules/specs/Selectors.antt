-- Private: how the code goes. The selectors of labels, and the ports of links.
use Rattle.std.specs.Prelude.{ℕ, ◌<◌, Bool, false, ◌==◌, Option, Some, None}
use Rattle.sv_lattice.specs.declared.labels.Label.{Label}
use Rattle.sv_lattice.specs.declared.labels.Label.TheVariants.{Point as Declared, Table}

-- each selector of the label is one of n signals
abbrev pub SelectsBelow : (n : ℕ) → Label → Type 0
SelectsBelow n (Declared point) = Unit {0}
SelectsBelow n (Table map first None) = first < n
SelectsBelow n (Table map first (Some second)) = (first < n) × (second < n)

-- a link that may be there is one of this port
abbrev pub is_port : Option (ℕ × ℕ) → ℕ → Bool
is_port None s = false
is_port (Some pair) s = pair.0 == s
