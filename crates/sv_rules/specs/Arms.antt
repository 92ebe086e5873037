-- Private: how the code goes. Chains of branches, arm by arm.
use Rattle.std.specs.Prelude.{true, ◌&&◌, Option, None, Some}
use Rattle.sv_flat.specs.Readings.{BitSet}
use Rattle.sv_graph.specs.declared.bit_sets.BitSet.{BitSet as Bits}
use Rattle.sv_graph.specs.BitSets.{in_bits}

abbrev pub both_of : BitSet → BitSet → BitSet
both_of first second s b = first s b && second s b

-- the bits that all arms so far have in common: every bit, where there is no arm
abbrev pub common_bits : Option Bits → BitSet
common_bits None = λ s b. true
common_bits (Some bits) = in_bits bits
