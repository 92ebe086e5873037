-- Bits around a statement.
use mathlib.Core.Path.{fun_ext}
use Rattle.std.proofs.Common.{◌≡◌, refl, sym, Bor}
use Rattle.sv_flat.specs.Readings.{BitSet, either}
use Rattle.sv_graph.specs.declared.bit_sets.BitSet.{BitSet as Bits}
use Rattle.sv_graph.specs.BitSets.{in_bits}
use Rattle.sv_rules.specs.declared.surroundings.Surrounding.{Surrounding, Inside}
use Rattle.sv_rules.specs.Phases.{SameBits}
use Rattle.sv_rules.specs.Surroundings.{in_surrounding}
use Rattle.sv_rules.proofs.Passes.{bits_inside}

-- two sets with the same bits are one
same_set : (first second : BitSet) → SameBits first second → first ≡ second
same_set first second same = fun_ext (λ s. fun_ext (same s))

-- the bits of a block inside of others, as one set
pub set_inside : (here : Bor Bits) (around : Bor Surrounding) (first : BitSet)
    → SameBits (in_bits here.now) first
    → in_surrounding (Inside here around) ≡ either first (in_surrounding around.now)
set_inside here around first same =
    sym (same_set (either first (in_surrounding around.now)) (in_surrounding (Inside here around))
    (bits_inside here around first (in_surrounding around.now) same (λ s b. refl)))
