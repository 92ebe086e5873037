-- The plain forms of views, of stimuli as runs and of what a comparison finds, and what a run is of
-- a design.
use Rattle.std.specs.Prelude.{ℕ, List, map, All, Vec}
use Rattle.std.specs.declared.alloc.Global.{Global}
use Rattle.sv_system.specs.System.{Environment, IsTrace}
use Rattle.sv_flat.specs.declared.signals.SigId.{SigId}
use Rattle.sv_flat.specs.Design.{FlatDesign}
use Rattle.sv_flat.specs.FlatSystem.{flat_system}
use Rattle.sv_flat.specs.SignalLists.{inputs, registers}
use Rattle.sv_flat.specs.Given.{FitListed, given}
use Rattle.sv_trace.specs.declared.stim.Stim.{Stim}
use Rattle.sv_tworun.specs.declared.compared.Compared.{Compared}
use Rattle.sv_tworun.specs.declared.compared.Compared.TheVariants as compared
use Rattle.sv_tworun.specs.declared.views.View.{View}

abbrev pub pair_form : SigId × ℕ → ℕ × ℕ
pair_form pair = (pair.0.0, pair.1)

-- the pairs of a view, signals by their numbers
abbrev pub view_form : View → List (ℕ × ℕ)
view_form view = map pair_form view.pairs.items

-- the values of the registers at the start, and those of the inputs in each cycle
pub record Run : Type 0 where
  pub start : List ℕ
  pub cycles : List (List ℕ)

-- the run that a stimulus asks for
abbrev pub run_of : Stim → Run
run_of stim = record {
  start = stim.start.items;
  cycles = map (λ (values : Vec ℕ Global). values.items) stim.cycles.items;
}

-- there is one fitting value for each register, and in every cycle one for each input
pub record FitsRun (design : FlatDesign) (run : Run) : Type 0 where
  pub start : FitListed design.signals (registers design) run.start
  pub cycles : All (FitListed design.signals (inputs design)) run.cycles

-- the environments are the trace of the run: one for each cycle, settled for its inputs
abbrev pub IsTraceOf : FlatDesign → Run → List (Environment ℕ) → Type 0
IsTraceOf design run trace =
    IsTrace (flat_system design) (given (registers design) run.start)
    (map (given (inputs design)) run.cycles) trace

-- what a comparison finds, whatever signals are named by; cycles are counted from 0
pub data Finding (Signal : Type 0) : Type 0 where
  -- both traces have so many cycles, and the views are equal at all of them
  equal : (cycles : ℕ) → Finding Signal
  -- at this cycle the level first sees two things of what is given, first of this signal
  inputs_differ : (cycle : ℕ) → (signal : Signal) → Finding Signal
  -- at this cycle what is given looks alike, and the views do not, first at this signal
  views_differ : (cycle : ℕ) → (signal : Signal) → Finding Signal
  -- one trace is longer, the other has so many cycles, and the views are equal at all of these
  lengths_differ : (cycles : ℕ) → Finding Signal

-- the plain form of what the comparison of two runs finds
abbrev pub finding : Compared → Finding ℕ
finding (compared.Equal cycles) = equal cycles
finding (compared.InputsDiffer cycle signal) = inputs_differ cycle signal.0
finding (compared.ViewsDiffer cycle signal) = views_differ cycle signal.0
finding (compared.LengthsDiffer cycles) = lengths_differ cycles
