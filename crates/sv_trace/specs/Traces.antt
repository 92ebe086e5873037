-- The lines of a trace (this project's profile).
use Rattle.std.specs.Prelude.{ℕ, Bool, true, false, List, [], ◌++◌, if◌then◌else◌, map, flat_map}
use Rattle.std.specs.Prelude.{codes, decimal}
use Rattle.std.specs.Prelude.{Option, Some, None}
use Rattle.std.specs.Fmt.{digits}
use Rattle.sv_lattice.specs.declared.points.Point.{Point}
use Rattle.sv_system.specs.System.{Environment, view}
use Rattle.sv_flat.specs.Design.{FlatDesign}
use Rattle.sv_flat.specs.FlatSystem.{flat_system}
use Rattle.sv_flat.specs.SignalLists.{system_signals}
use Rattle.sv_trace.specs.Forms.{name_in}

-- in lower case, without leading zeros
abbrev pub hexadecimal : ℕ → List ℕ
hexadecimal value = digits 16 false value

-- a blank, the name of a signal, and its value
abbrev pub pair_text : FlatDesign → ℕ × ℕ → List ℕ
pair_text design pair =
    codes " " ++ name_in design.signals pair.0 ++ codes "=" ++ hexadecimal pair.1

-- the signals of a cycle with their values: all of them, or what a level sees
abbrev pub shown : FlatDesign → Option Point → Environment ℕ → List (ℕ × ℕ)
shown design None environment = map (λ s. (s, environment s)) (system_signals design)
shown design (Some level) environment = view (flat_system design) level environment

-- the line of a cycle: its number from 0, and the signals
abbrev pub trace_line : FlatDesign → (cycle : ℕ) → Option Point → Environment ℕ → List ℕ
trace_line design cycle level environment =
    decimal cycle ++ flat_map (pair_text design) (shown design level environment) ++ codes "\n"

-- whether a signal is shown
abbrev pub is_shown : FlatDesign → Option Point → Environment ℕ → ℕ → Bool
is_shown design None environment s = true
is_shown design (Some level) environment s =
    (flat_system design).flows ((flat_system design).label s environment) level

-- what stands in a line of a signal: nothing if it is not shown
abbrev pub text_of_signal : FlatDesign → Option Point → Environment ℕ → ℕ → List ℕ
text_of_signal design level environment s =
    if is_shown design level environment s then pair_text design (s, environment s) else []
