-- Values of an encoding's variables, as values of registers and inputs in lists.
use Rattle.std.specs.Prelude.{◌≡◌, ℕ, ◌<◌, ◌≤◌, List, All, AllPairs, length, map}
use Rattle.sv_flat.specs.Design.{FlatDesign}
use Rattle.sv_flat.specs.Values.{signal_width}
use Rattle.sv_flat.specs.SignalLists.{registers, inputs}
use Rattle.sv_obl.specs.declared.valuations.Valuation.{Valuation as Listed}
use Rattle.sv_obl.specs.Validity.{Valuation}
use Rattle.sv_encoding.specs.Encoding.{BitPlace}
use Rattle.sv_encoding.specs.BothWays.{AreOfOneBit}

-- a place is one of a bit of a signal, and of one of the variables
pub record IsBitPlace (design : FlatDesign) (variables : ℕ) (place : BitPlace) : Type 0 where
  pub inside : place.bit < signal_width design.signals place.signal
  pub from_one : 1 ≤ place.variable
  pub variable : place.variable ≤ variables

-- values of the variables say what the bits are: each bit has one place at most
pub record IsDecodable (design : FlatDesign) (variables : ℕ) (bits : List BitPlace) : Type 0 where
  pub places : All (IsBitPlace design variables) bits
  pub apart : AllPairs (λ a b. ¬ AreOfOneBit a b) bits

-- as many values as the design has registers, inputs, and inputs of the next cycle
pub record HasSizes (design : FlatDesign) (listed : Listed) : Type 0 where
  pub of_registers : length listed.regs.items ≡ length (registers design)
  pub of_inputs : length listed.inputs.items ≡ length (inputs design)
  pub of_next_inputs : length listed.next_inputs.items ≡ length (inputs design)

-- the lists have the valuation's values of the registers and inputs, in signal order
pub record ListsValues (design : FlatDesign) (v : Valuation) (listed : Listed) : Type 0 where
  pub of_registers : listed.regs.items ≡ map v.registers (registers design)
  pub of_inputs : listed.inputs.items ≡ map v.inputs (inputs design)
  pub of_next_inputs : listed.next_inputs.items ≡ map v.next_inputs (inputs design)
