-- Private: how the code goes. How far a simulation has come. What is written stands in
-- Simulated.antt.
use Rattle.std.specs.Prelude.{◌≡◌, ℕ, ◌+◌, ◌*◌, ◌≤◌, ◌<◌, true, false, List, [], ◌++◌, length}
use Rattle.std.specs.Prelude.{map, IfSome, vec_len}
use Rattle.std.specs.Option.{ForSome}
use Rattle.sv_io.specs.Sink.{WritesFront}
use Rattle.sv_system.specs.System.{Environment, IsTrace}
use Rattle.sv_flat.specs.Design.{FlatDesign}
use Rattle.sv_flat.specs.FlatSystem.{flat_system}
use Rattle.sv_flat.specs.SignalLists.{system_signals, inputs, registers}
use Rattle.sv_flat.specs.Views.{design_of}
use Rattle.sv_design.specs.Designs.{IsDesign}
use Rattle.sv_flat.specs.Given.{given}
use Rattle.sv_trace.specs.Forms.{form_of}
use Rattle.sv_trace.specs.Reading.{HasFed, HasRead}
use Rattle.sv_trace.specs.Stimulus.{LinesRead, start_of, cycles_of}
use Rattle.sv_sim_run.specs.declared.endings.Ending.{Ending}
use Rattle.sv_sim_run.specs.declared.simulations.Simulation.{Simulation}
use Rattle.sv_sim_run.specs.Runners.{design_in, values_in, order_in, rounds_in, IsRunner}
use Rattle.sv_sim_run.specs.Runs.{HaveRun, HaveRunInOrder, HaveLines, lines_of}
use Rattle.sv_sim_run.specs.Simulated.{largest_stimulus, is_within, read_of, ending_of}

abbrev pub flat_of : Simulation → FlatDesign
flat_of s = design_of s.design.now

-- what holds of every simulation
pub record IsSimulating (s : Simulation) : Type 0 where
  pub admitted : IsDesign (flat_of s)
  pub runner : design_in s.runner ≡ s.design.now
  pub orders : IsRunner s.runner
  pub form : s.reader.form ≡ form_of (flat_of s)
  pub level : ForSome s.level (λ point. point.0 < length s.design.now.lattice)
  pub room : vec_len s.values ≡ length (system_signals (flat_of s))
  pub begun : s.is_started ≡ true → s.reader.said.begun ≡ true

-- what no call changes
pub record IsSameAs (old new : Simulation) : Type 0 where
  pub design : new.design.now ≡ old.design.now
  pub level : new.level ≡ old.level
  pub order : order_in new.runner ≡ order_in old.runner
  pub form : new.reader.form ≡ old.reader.form

-- The cycles were run from the reader's start, by the order number if there is one.
pub record HaveBeenRun (taken : List (List ℕ)) (trace : List (Environment ℕ)) (s : Simulation) :
    Type 0 where
  pub run : HaveRun (flat_of s) s.reader.said.start taken trace (values_in s.runner)
  pub in_order : HaveRunInOrder (flat_of s) (order_in s.runner) s.reader.said.start taken trace
      (values_in s.runner) (rounds_in s.runner)

-- These cycles were run, none before the start is known, and the sink accepted their lines behind
-- what it had, up to those that wait.
pub record HasRunCycles (taken : List (List ℕ)) (before accepted : List ℕ) (s : Simulation) :
    Type 0 where
  pub trace : List (Environment ℕ)
  pub same_count : length trace ≡ length taken
  pub run : s.is_started ≡ true → HaveBeenRun taken trace s
  pub none : s.is_started ≡ false → length taken ≡ 0
  pub cycle : s.cycle ≡ length taken
  pub few : IfSome (rounds_in s.runner) (λ rounds. rounds ≤ length taken * 4294967295)
  pub lines : HaveLines (flat_of s) s.level trace before accepted s.waiting.items

-- Of these lines, which are no more than a stimulus has, as many cycles were run as are counted, so
-- that no number exceeds its bound.
pub record HasRoom (s : Simulation) : Type 0 where
  pub read : LinesRead
  pub taken : List (List ℕ)
  pub has : HasRead read taken s.reader
  pub few : length read.right ≤ largest_stimulus + 1
  pub cycle : s.cycle ≡ length taken
  pub rounds : IfSome (rounds_in s.runner) (λ rounds. rounds ≤ s.cycle * 4294967295)

-- These bytes were read and all their cycles were run; nothing waits between two pieces.
pub record HasCome (bytes before accepted : List ℕ) (s : Simulation) : Type 0 where
  pub taken : List (List ℕ)
  pub fed : HasFed bytes taken s.reader
  pub all : length s.reader.said.cycles ≡ 0
  pub ran : HasRunCycles taken before accepted s
  pub put : s.waiting.items ≡ []

-- the same of the lines of a whole stimulus
pub record HasEnded (read : LinesRead) (before accepted : List ℕ) (s : Simulation) : Type 0 where
  pub taken : List (List ℕ)
  pub read_all : HasRead read taken s.reader
  pub all : length s.reader.said.cycles ≡ 0
  pub ran : HasRunCycles taken before accepted s
  pub put : s.waiting.items ≡ []

-- so many bytes more, behind those that were read, are still within the largest stimulus
pub record LeavesRoom (more : ℕ) (accepted : List ℕ) (s : Simulation) : Type 0 where
  pub bytes : List ℕ
  pub before : List ℕ
  pub come : HasCome bytes before accepted s
  pub within : length bytes + more ≤ largest_stimulus

-- Of what was read the first cycles were run, and a front of their lines was accepted.
pub record HasFailed (read : LinesRead) (before accepted : List ℕ) (s : Simulation) : Type 0 where
  pub taken : List (List ℕ)
  pub rest : List (List ℕ)
  pub cycles : cycles_of read.right ≡ taken ++ rest
  pub trace : List (Environment ℕ)
  pub run : IsTrace (flat_system (flat_of s))
      (given (registers (flat_of s)) (start_of s.reader.form read.right))
      (map (given (inputs (flat_of s))) taken) trace
  pub front : WritesFront before (lines_of (flat_of s) s.level trace) accepted

-- The stimulus of these bytes was read to its ending, and all its cycles were run.
pub record HasReached (bytes : List ℕ) (ends : Ending) (before accepted : List ℕ)
    (s : Simulation) : Type 0 where
  pub made : IsSimulating s
  pub ended : HasEnded (read_of s.reader.form bytes) before accepted s
  pub is : ends ≡ ending_of (is_within bytes) (read_of s.reader.form bytes)
