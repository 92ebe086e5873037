-- The cycle system of a flat design: its signals by their numbers, clocks and links to clocks left
-- out.
use Rattle.std.specs.Prelude.{ℕ, ◌==◌, ◌&&◌, not, List, map, filter, flat_map, Some, None}
use Rattle.sv_system.specs.System.{System, Environment, last_update}
use Rattle.sv_lattice.specs.declared.points.Point.{Point}
use Rattle.sv_lattice.specs.declared.labels.Label.{Label}
use Rattle.sv_lattice.specs.declared.labels.Label.TheVariants.{Point as Declared, Table}
use Rattle.sv_lattice.specs.Maps.{MapRows, row_of, pair_value}
use Rattle.sv_lattice.specs.Labels.{map_of}
use Rattle.sv_lattice.specs.Tables.{flow_test}
use Rattle.sv_flat.specs.Design.{ProcessForm, FlatDesign}
use Rattle.sv_flat.specs.Values.{signal_of, signal_width}
use Rattle.sv_flat.specs.Runs.{Updates, run_alone, updates_of}
use Rattle.sv_flat.specs.Processes.{is_clocked, is_top_input, is_register, signals_that}
use Rattle.sv_flat.specs.Clocks.{is_clock, processes_of}

-- the processes that are no clocked ones, in order
abbrev pub combinational_processes : FlatDesign → List ProcessForm
combinational_processes design =
    filter (λ (p : ProcessForm). not (is_clocked p.kind)) (processes_of design)

-- the clocked processes, in order
abbrev pub clocked_processes : FlatDesign → List ProcessForm
clocked_processes design = filter (λ (p : ProcessForm). is_clocked p.kind) (processes_of design)

-- one whole run of a process
abbrev pub run_of : FlatDesign → ProcessForm → Environment ℕ → Environment ℕ
run_of design process = run_alone design.signals process.body

-- the updates of the processes, each run on the environment with none pending
abbrev pub all_updates : FlatDesign → List ProcessForm → Environment ℕ → Updates
all_updates design processes environment =
    flat_map (λ (p : ProcessForm). updates_of design.signals p.body environment) processes

-- the environment after these clocked processes have run on it: what has an update has its last one
-- (IEEE 1364-2005, clause 11)
abbrev pub after_edge : FlatDesign → List ProcessForm → Environment ℕ → Environment ℕ
after_edge design processes environment s =
    last_update ◌==◌ s (environment s) (all_updates design processes environment)

-- the label in an environment: the declared point, or the map's row at the value of the selector or
-- of the pair of selectors (SecVerilog, ASPLOS 2015)
abbrev pub label_in : List MapRows → Label → Environment ℕ → Point
label_in maps (Declared point) environment = point
label_in maps (Table map first None) environment = row_of (map_of maps map) (environment first)
label_in maps (Table map first (Some second)) environment =
    let rows = map_of maps map in
    row_of rows (pair_value rows (environment first) (environment second))

abbrev pub flat_system : FlatDesign → System ℕ Point
flat_system design = record {
  signals = signals_that design (λ s. not (is_clock design s));
  is_input = λ s. is_top_input design s && not (is_clock design s);
  is_register = is_register design;
  width = signal_width design.signals;
  processes = map (run_of design) (combinational_processes design);
  next = after_edge design (clocked_processes design);
  label = λ s. label_in design.maps (signal_of design.signals s).label;
  flows = λ a b. flow_test design.lattice a.0 b.0;
}
