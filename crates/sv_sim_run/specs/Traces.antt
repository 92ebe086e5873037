-- The trace that a stimulus makes of a design, and its lines (this project's profile), whatever a
-- signal goes by: a path in a source text, a number in a flat design.
use Rattle.std.specs.Prelude.{◌≡◌, ℕ, ◌+◌, List, [], ◌∷◌, ◌++◌, map, filter, flat_map}
use Rattle.std.specs.Prelude.{codes, decimal, Option, Some, None}
use Rattle.sv_system.specs.System.{System, Environment, IsTrace, view}
use Rattle.sv_trace.specs.declared.forms.Register.{Register}
use Rattle.sv_trace.specs.Forms.{StimForm}
use Rattle.sv_trace.specs.Traces.{hexadecimal}

-- ---- what a stimulus has to know of a design

abbrev pub inputs_in : {Signal Point : Type 0} → System Signal Point → List Signal
inputs_in system = filter system.is_input system.signals

abbrev pub registers_in : {Signal Point : Type 0} → System Signal Point → List Signal
registers_in system = filter system.is_register system.signals

abbrev pub register_in : {Signal Point : Type 0} → (name : Signal → List ℕ) →
    System Signal Point → Signal → Register
register_in name system s = record { name = name s; width = system.width s }

-- the word `inputs`, and the name of each input of the top module with a blank before it
abbrev pub header_in : {Signal Point : Type 0} → (name : Signal → List ℕ) →
    System Signal Point → List ℕ
header_in name system = codes "inputs" ++ flat_map (λ s. codes " " ++ name s) (inputs_in system)

abbrev pub form_in : {Signal Point : Type 0} → (name : Signal → List ℕ) →
    System Signal Point → StimForm
form_in name system = record {
  header = header_in name system;
  inputs = map system.width (inputs_in system);
  registers = map (register_in name system) (registers_in system);
}

-- ---- the trace

-- The trace from these starting values of the registers, over these values of the inputs in each
-- cycle; both are given in signal order.
pub record IsTraceFrom {Signal Point : Type 0} (system : System Signal Point) (start : List ℕ)
    (cycles : List (List ℕ)) (trace : List (Environment Signal)) : Type 0 where
  pub state : Environment Signal
  pub inputs : List (Environment Signal)
  pub started : map state (registers_in system) ≡ start
  pub given : map (λ values. map values (inputs_in system)) inputs ≡ cycles
  pub follows : IsTrace system state inputs trace

-- ---- lines

-- the signals of a cycle with their values: all of them, or what a level sees
abbrev pub shown_in : {Signal Point : Type 0} → System Signal Point → Option Point →
    Environment Signal → List (Signal × ℕ)
shown_in system None environment = map (λ s. (s, environment s)) system.signals
shown_in system (Some level) environment = view system level environment

-- a blank, the name of a signal, and its value
abbrev pub pair_in : {Signal : Type 0} → (name : Signal → List ℕ) → Signal × ℕ → List ℕ
pair_in name pair = codes " " ++ name pair.0 ++ codes "=" ++ hexadecimal pair.1

-- the line of a cycle: its number, and the signals
abbrev pub line_in : {Signal Point : Type 0} → (name : Signal → List ℕ) → System Signal Point →
    Option Point → (cycle : ℕ) → Environment Signal → List ℕ
line_in name system level cycle environment =
    decimal cycle ++ flat_map (pair_in name) (shown_in system level environment) ++ codes "\n"

-- the lines of a trace, whose first cycle has this number
abbrev pub lines_from : {Signal Point : Type 0} → (name : Signal → List ℕ) →
    System Signal Point → Option Point → (cycle : ℕ) → List (Environment Signal) → List ℕ
lines_from name system level cycle [] = []
lines_from name system level cycle (environment ∷ environments) =
    line_in name system level cycle environment
    ++ lines_from name system level (cycle + 1) environments
