-- Private: how the code goes. How far a simulation has come. What is written stands in
-- Simulated.antt.
use Rattle.std.specs.Prelude.{◌≡◌, ℕ, ◌+◌, List, [], ◌∷◌, ◌++◌, map}
use Rattle.std.specs.Prelude.{sum, Option, Some, None, Result, Ok, Err}
use Rattle.sv_io.specs.Sink.{WritesFront}
use Rattle.sv_lattice.specs.declared.points.Point.{Point}
use Rattle.sv_system.specs.System.{System, Environment, IsTrace}
use Rattle.sv_flat.specs.Design.{FlatDesign}
use Rattle.sv_flat.specs.FlatSystem.{flat_system}
use Rattle.sv_flat.specs.Schedules.{IsOrderedRun, starting, after_tick, tick_order}
use Rattle.sv_flat.specs.SignalLists.{inputs, registers}
use Rattle.sv_flat.specs.Given.{given}
use Rattle.sv_trace.specs.declared.faults.StimFault.{StimFault}
use Rattle.sv_trace.specs.declared.faults.StimFault.TheVariants as stim
use Rattle.sv_trace.specs.Forms.{name_in}
use Rattle.sv_sim_run.specs.declared.endings.Ending.{Ending}
use Rattle.sv_sim_run.specs.declared.endings.Ending.TheVariants as ending
use Rattle.sv_sim_run.specs.declared.endings.SimFault.{SimFault}
use Rattle.sv_sim_run.specs.declared.endings.SimFault.TheVariants as fault
use Rattle.sv_sim_run.specs.Traces.{lines_from}

-- ---- faults and endings

-- what a reader's answer means for the simulation: how it ends, if it does
abbrev pub ending_from : Result (Unit {0}) StimFault → Result (Option Ending) SimFault
ending_from (Ok done) = Ok None
ending_from (Err (stim.Line line kind)) = Ok (Some (ending.WrongLine line kind))
ending_from (Err stim.OutOfMemory) = Err fault.OutOfMemory

-- ---- cycles so far

-- the environment that the next cycle begins with: the start, or what the clock edge made of the
-- last environment
abbrev pub after_trace : {Signal Point : Type 0} → System Signal Point → Environment Signal →
    List (Environment Signal) → Environment Signal
after_trace system state [] = state
after_trace system state (environment ∷ environments) =
    after_trace system (system.next environment) environments

-- the same of an ordered run, whose first cycle has this number
abbrev pub after_ordered : FlatDesign → (cycle : ℕ) → Environment ℕ → List (Environment ℕ) →
    Environment ℕ
after_ordered design cycle before [] = before
after_ordered design cycle before (environment ∷ environments) =
    after_ordered design (cycle + 1) (after_tick design (tick_order design cycle) environment)
    environments

-- These cycles were run from this start, and gave the trace; the environment stands before the next
-- cycle.
pub record HaveRun (design : FlatDesign) (start : List ℕ) (cycles : List (List ℕ))
    (trace : List (Environment ℕ)) (environment : Environment ℕ) : Type 0 where
  pub is_trace : IsTrace (flat_system design) (given (registers design) start)
      (map (given (inputs design)) cycles) trace
  pub registers_are : map environment (registers design) ≡
      map (after_trace (flat_system design) (given (registers design) start) trace)
      (registers design)

-- Where an order number is given, they were run in its orders, and took so many rounds.
abbrev pub HaveRunInOrder : FlatDesign → (order : Option ℕ) → (start : List ℕ) →
    (cycles : List (List ℕ)) → (trace : List (Environment ℕ)) → Environment ℕ →
    (rounds : Option ℕ) → Type 0
HaveRunInOrder design None start cycles trace environment rounds = rounds ≡ None
HaveRunInOrder design (Some number) start cycles trace environment rounds =
    (counts : List ℕ)
    × IsOrderedRun design number 0 (starting design (given (registers design) start))
    (map (given (inputs design)) cycles) trace counts
    × ((s : ℕ) → environment s ≡
    after_ordered design 0 (starting design (given (registers design) start)) trace s)
    × (rounds ≡ Some (sum counts))

-- ---- what is written

abbrev pub lines_of : FlatDesign → Option Point → (trace : List (Environment ℕ)) → List ℕ
lines_of design level trace =
    lines_from (name_in design.signals) (flat_system design) level 0 trace

-- what was accepted grew by the front of the text, and the rest waits
pub record PutsFront (old text new waiting : List ℕ) : Type 0 where
  pub front : List ℕ
  pub whole : text ≡ front ++ waiting
  pub accepted : new ≡ old ++ front

-- What the sink accepted, and what waits to be put behind it, are the lines of the trace.
abbrev pub HaveLines : FlatDesign → Option Point → (trace : List (Environment ℕ)) →
    (before accepted waiting : List ℕ) → Type 0
HaveLines design level trace before accepted waiting =
    PutsFront before (lines_of design level trace) accepted waiting

-- These cycles have a trace from this start, and a front of its lines was accepted.
pub record WritesRun (design : FlatDesign) (level : Option Point) (start : List ℕ)
    (cycles : List (List ℕ)) (before accepted : List ℕ) : Type 0 where
  pub trace : List (Environment ℕ)
  pub traces : IsTrace (flat_system design) (given (registers design) start)
      (map (given (inputs design)) cycles) trace
  pub front : WritesFront before (lines_of design level trace) accepted
