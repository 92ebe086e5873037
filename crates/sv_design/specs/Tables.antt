-- What is worked out of a design once, when it is admitted.
use Rattle.std.specs.Prelude.{◌≡◌, map, length}
use Rattle.sv_flat.specs.Design.{FlatDesign}
use Rattle.sv_flat.specs.Views.{process_form}
use Rattle.sv_flat.specs.Processes.{signal_numbers}
use Rattle.sv_flat.specs.Clocks.{is_clock, processes_of}
use Rattle.sv_flat.specs.FlatSystem.{combinational_processes, clocked_processes}
use Rattle.sv_flat.specs.SignalLists.{system_signals, inputs as inputs_of}
use Rattle.sv_flat.specs.SignalLists.{registers as registers_of, top_clock, driver_of}
use Rattle.sv_flat.specs.Reads.{reads_for, order as order_of}
use Rattle.sv_design.specs.declared.tables.Tables.{Tables}
use Rattle.sv_design.specs.Feeds.{AreWants}
use Rattle.sv_design.specs.Numbers.{numbers, number_if_any}

-- the tables are those of the design
pub record AreTables (design : FlatDesign) (tables : Tables) : Type 0 where
  pub processes_are : map process_form tables.processes.items ≡ processes_of design
  pub clock_is : number_if_any tables.clock ≡ top_clock design
  pub clocks_are : tables.clocks.items ≡ map (is_clock design) (signal_numbers design)
  pub seen_are : numbers tables.seen.items ≡ system_signals design
  pub inputs_are : numbers tables.inputs.items ≡ inputs_of design
  pub registers_are : numbers tables.registers.items ≡ registers_of design
  pub order_is : numbers tables.order.items ≡ order_of design
  pub combs_are : tables.combs ≡ length (combinational_processes design)
  pub clocked_are : tables.clocked ≡ length (clocked_processes design)
  pub drivers_are : tables.drivers.items ≡ map (driver_of design) (signal_numbers design)
  pub reads_are : map (λ reads. numbers reads.items) tables.reads.items ≡
      map (reads_for design) (signal_numbers design)
  pub wants_are : AreWants design tables.wants
