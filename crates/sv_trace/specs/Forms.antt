-- What a stimulus has to know of a design.
use Rattle.std.specs.Prelude.{ℕ, List, ◌++◌, map, flat_map, codes}
use Rattle.sv_flat.specs.Design.{SignalForm, FlatDesign}
use Rattle.sv_flat.specs.SignalLists.{inputs, registers}
use Rattle.sv_flat.specs.Values.{signal_of, signal_width}
use Rattle.sv_trace.specs.declared.forms.Register.{Register}

pub record StimForm : Type 0 where
  -- the line before the cycles
  pub header : List ℕ
  -- the width of each input of a cycle, in order
  pub inputs : List ℕ
  -- the name and the width of each register, in order
  pub registers : List Register

abbrev pub name_in : List SignalForm → ℕ → List ℕ
name_in signals s = (signal_of signals s).name

abbrev pub register_in : List SignalForm → ℕ → Register
register_in signals s = record { name = name_in signals s; width = signal_width signals s }

-- the word `inputs`, and the name of each input of the top module with a blank before it
abbrev pub header_line : FlatDesign → List ℕ
header_line design =
    codes "inputs" ++ flat_map (λ s. codes " " ++ name_in design.signals s) (inputs design)

abbrev pub form_of : FlatDesign → StimForm
form_of design = record {
  header = header_line design;
  inputs = map (signal_width design.signals) (inputs design);
  registers = map (register_in design.signals) (registers design);
}
