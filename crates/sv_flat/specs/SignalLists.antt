-- The lists of an admitted design, its clock and the process of a signal (this project's profile).
use Rattle.std.specs.Prelude.{ℕ, List, Option, find, position}
use Rattle.sv_flat.specs.Design.{ProcessForm, FlatDesign}
use Rattle.sv_flat.specs.Assigned.{assigns}
use Rattle.sv_flat.specs.Processes.{is_top_input, signals_that}
use Rattle.sv_flat.specs.Clocks.{clocks, processes_of}
use Rattle.sv_flat.specs.FlatSystem.{flat_system}

-- all signals but clocks, in order
abbrev pub system_signals : FlatDesign → List ℕ
system_signals design = (flat_system design).signals

abbrev pub inputs : FlatDesign → List ℕ
inputs design = signals_that design (flat_system design).is_input

abbrev pub registers : FlatDesign → List ℕ
registers design = signals_that design (flat_system design).is_register

-- the clock that is an input of the top module, if there is one
abbrev pub top_clock : FlatDesign → Option ℕ
top_clock design = find (is_top_input design) (clocks design)

-- the place of a signal's process among the processes; inputs and clocks have none
abbrev pub driver_of : FlatDesign → ℕ → Option ℕ
driver_of design s = position (λ (p : ProcessForm). assigns p.body s) (processes_of design)
