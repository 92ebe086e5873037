-- Each signal has one driver, and the clocks are in order (one driver is this project's profile).
use Rattle.std.specs.Prelude.{ℕ, Bool, ◌&&◌, not, if◌then◌else◌, List, map, filter, slice_get}
use Rattle.std.specs.Prelude.{Option, is_none, option_map}
use Rattle.std.specs.List.{filter_map}
use Rattle.sv_flat.specs.Design.{ProcessForm, FlatDesign}
use Rattle.sv_flat.specs.Processes.{is_top_input, declared_at, signal_numbers, signals_that}
use Rattle.sv_flat.specs.Processes.{drivers}
use Rattle.sv_flat.specs.Clocks.{clocks, is_clock, is_proper_clock, processes_of}
use Rattle.sv_flat.specs.Breaches.{Breach, breach}

-- rule 602, at the declaration of each clock that breaks it
abbrev pub clock_faults : FlatDesign → List Breach
clock_faults design =
    map (λ s. breach 602 (declared_at design s) s)
    (filter (λ s. not (is_proper_clock design s)) (clocks design))

-- the second process that drives a signal, or the first of an input of the top module
abbrev pub extra_driver : FlatDesign → ℕ → Option ProcessForm
extra_driver design s =
    slice_get (drivers (processes_of design) s) (if is_top_input design s then 0 else 1)

abbrev pub driver_fault : FlatDesign → ℕ → Option Breach
driver_fault design s =
    option_map (λ (p : ProcessForm). breach 603 p.place s) (extra_driver design s)

-- rule 603, at the second driver of each signal that has one
abbrev pub driver_faults : FlatDesign → List Breach
driver_faults design = filter_map (driver_fault design) (signal_numbers design)

-- a signal other than an input of the top module or a clock has no driver
abbrev pub is_undriven : FlatDesign → ℕ → Bool
is_undriven design s =
    not (is_top_input design s) && not (is_clock design s)
    && is_none (slice_get (drivers (processes_of design) s) 0)

-- rule 604, at the declaration of each signal without a driver
abbrev pub undriven : FlatDesign → List Breach
undriven design =
    map (λ s. breach 604 (declared_at design s) s) (signals_that design (is_undriven design))
