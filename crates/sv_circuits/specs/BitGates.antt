-- The gates of two bits, by name, and chains that are not done.
use Rattle.std.specs.Prelude.{ℤ, List, Option, None, Some}
use Rattle.sv_gates.specs.Gates.{true_literal, false_literal, and_gate, or_gate, xor_gate}
use Rattle.sv_circuits.specs.declared.bit_gates.BitGate.{BitGate}
use Rattle.sv_circuits.specs.declared.bit_gates.BitGate.TheVariants.{And, Or, Xor, Xnor}
use Rattle.sv_circuits.specs.Words.{BitMaker, negation, chain, and_chain, or_chain, xor_chain}

abbrev pub gate_of : BitGate → (a b : ℤ) → BitMaker
gate_of And a b formula = and_gate a b formula
gate_of Or a b formula = or_gate a b formula
gate_of Xor a b formula = xor_gate a b formula
gate_of Xnor a b formula = negation (xor_gate a b) formula

-- what stands for a chain of such gates that has no members
abbrev pub none_of : BitGate → ℤ
none_of And = true_literal
none_of Or = false_literal
none_of Xor = false_literal
none_of Xnor = true_literal

-- a chain of such gates
abbrev pub chain_of : BitGate → List BitMaker → BitMaker
chain_of And makes formula = and_chain makes formula
chain_of Or makes formula = or_chain makes formula
chain_of Xor makes formula = xor_chain makes formula
chain_of Xnor makes formula = chain (gate_of Xnor) true_literal makes formula

-- a member joined to what is before it in a chain; the first one is the chain
abbrev pub joined_to : Option ℤ → BitGate → ℤ → BitMaker
joined_to None gate literal formula = (formula, literal)
joined_to (Some before) gate literal formula = gate_of gate before literal formula
