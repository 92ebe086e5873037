-- Private: how the code goes. Sets of bits of signals, as numbers by signal.
use Rattle.std.specs.Prelude.{◌<◌, ℕ, Bool, ◌==◌, ◌&&◌, not, List, unwrap_or}
use Rattle.std.specs.Prelude.{IsTrue, IsFalse}
use Rattle.std.specs.List.{list_any}
use Rattle.std.specs.Int.{bit_at}
use Rattle.std.specs.Ordering.{nat_cmp}
use Rattle.std.specs.BTreeMap as tree
use Rattle.sv_graph.specs.declared.bit_sets.BitSet.{BitSet}

-- the bits of a signal that are in the set, as a number
abbrev pub mask_in : BitSet → ℕ → ℕ
mask_in set s = unwrap_or (tree.get nat_cmp set.masks s) 0

-- the number has the bit
abbrev pub is_set : ℕ → ℕ → Bool
is_set mask b = bit_at mask b == 1

-- the set has the bit of the signal
abbrev pub in_bits : BitSet → ℕ → ℕ → Bool
in_bits set s b = is_set (mask_in set s) b

-- two numbers have a bit in common
abbrev pub SharesBit : ℕ → ℕ → Type 0
SharesBit a b = (k : ℕ) × IsTrue (is_set a k) × IsTrue (is_set b k)

-- the first number has a bit that the second lacks
abbrev pub LacksBit : ℕ → ℕ → Type 0
LacksBit a b = (k : ℕ) × IsTrue (is_set a k) × IsFalse (is_set b k)

-- the set has a bit of the signal
abbrev pub has_some : BitSet → ℕ → Bool
has_some set s = not (mask_in set s == 0)

-- entries of a map have the bit of the signal
abbrev pub in_entries : List (ℕ × ℕ) → ℕ → ℕ → Bool
in_entries entries s b = list_any (λ (e : ℕ × ℕ). (e.0 == s) && is_set e.1 b) entries

-- each signal with a bit in the set is one of n
abbrev pub HasTargetsBelow : ℕ → BitSet → Type 0
HasTargetsBelow n set = (s : ℕ) → IsTrue (has_some set s) → s < n
