-- Values in lists, one for each register and input in signal order, as valuations: what `Falsifies`
-- asks of environments is asked of what is found and printed by these.
use Rattle.sv_flat.specs.Design.{FlatDesign}
use Rattle.sv_flat.specs.Given.{FitListed, given}
use Rattle.sv_flat.specs.SignalLists.{registers, inputs}
use Rattle.sv_obl.specs.declared.valuations.Valuation.{Valuation as Listed}
use Rattle.sv_obl.specs.Validity.{Valuation}

-- one fitting value for each register, for each input, and for each input of the next cycle
pub record FitsDesign (design : FlatDesign) (v : Listed) : Type 0 where
  pub of_registers : FitListed design.signals (registers design) v.regs.items
  pub of_inputs : FitListed design.signals (inputs design) v.inputs.items
  pub of_next_inputs : FitListed design.signals (inputs design) v.next_inputs.items

-- the environments in which each register, and each input in its cycle, has its listed value, and
-- every other signal 0
abbrev pub valuation_of : FlatDesign → Listed → Valuation
valuation_of design v = record {
  registers = given (registers design) v.regs.items;
  inputs = given (inputs design) v.inputs.items;
  next_inputs = given (inputs design) v.next_inputs.items;
}
