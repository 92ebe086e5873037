-- Private: how the code goes. Bits of a block and of the blocks around it.
use Rattle.std.specs.Prelude.{false, ◌||◌}
use Rattle.sv_flat.specs.Readings.{BitSet}
use Rattle.sv_rules.specs.declared.surroundings.Surrounding.{Surrounding, fold-Surrounding}
use Rattle.sv_rules.specs.declared.surroundings.Surrounding.TheOpen.{Surrounding-F}
use Rattle.sv_graph.specs.BitSets.{in_bits}

-- the bits of one block, and those around it
abbrev pub surrounding_step : Surrounding-F BitSet → BitSet
surrounding_step Surrounding-F.Nothing = λ s b. false
surrounding_step (Surrounding-F.Inside bits around) = λ s b. in_bits bits.now s b || around.now s b

-- some of the sets has the bit of the signal
abbrev pub in_surrounding : Surrounding → BitSet
in_surrounding = fold-Surrounding BitSet surrounding_step
