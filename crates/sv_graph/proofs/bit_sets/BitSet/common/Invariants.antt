use Rattle.std.proofs.Common.{◌≡◌, ℕ, ◌&&◌, ◌||◌}
use Rattle.sv_graph.specs.BitSets.{in_bits, in_entries}
use Rattle.sv_graph.proofs.bit_sets.BitSet.common.Given as goal

-- the bits so far, and those of the entries that are left
abbrev pub invariant-loop-signal : goal.invariant-loop-signal
invariant-loop-signal l = (s b : ℕ)
    → (in_bits l.both s b || (in_entries l.signal-iterator s b && in_bits l.other s b)) ≡
    (in_bits l.self s b && in_bits l.other s b)
