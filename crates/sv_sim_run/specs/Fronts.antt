-- Private: how the code goes. What was taken, and what was written before a fault. What is written
-- stands in Simulated.antt.
use Rattle.std.specs.Prelude.{◌≡◌, ℕ, ◌+◌, ◌<◌, ◌≤◌, Bool, IsTrue, IsFalse, List, [], ◌++◌}
use Rattle.std.specs.Prelude.{length, take, Option, Some, None, Result, Ok, Err, IsErrOf}
use Rattle.sv_lattice.specs.declared.points.Point.{Point}
use Rattle.sv_system.specs.System.{Environment}
use Rattle.sv_flat.specs.Design.{FlatDesign}
use Rattle.sv_flat.specs.FlatSystem.{flat_system}
use Rattle.sv_trace.specs.Forms.{form_of}
use Rattle.sv_trace.specs.Stimulus.{read_front, start_of, cycles_of}
use Rattle.sv_sim_run.specs.declared.endings.Ending.{Ending}
use Rattle.sv_sim_run.specs.declared.simulations.Simulation.{Simulation}
use Rattle.sv_sim_run.specs.declared.endings.SimFault.{SimFault}
use Rattle.sv_sim_run.specs.declared.endings.SimFault.TheVariants as faults
use Rattle.sv_sim_run.specs.Progress.{flat_of, IsSimulating, HasCome, HasReached}
use Rattle.sv_sim_run.specs.Runners.{order_in}
use Rattle.sv_sim_run.specs.Runs.{lines_of}
use Rattle.sv_sim_run.specs.Simulated.{largest_stimulus, IsSimulatedAt, WritesFrontAt}
use Rattle.sv_sim_run.specs.Traces.{IsTraceFrom}

-- `WritesAllCycles` with what is shown in place of the level's name
pub record WritesAllAt (design : FlatDesign) (shown : Option Point) (bytes old new : List ℕ) :
    Type 0 where
  pub right : (read_front (form_of design) bytes).wrong ≡ None
  pub few : length bytes ≤ largest_stimulus
  pub trace : List (Environment ℕ)
  pub traces : IsTraceFrom (flat_system design)
      (start_of (form_of design) (read_front (form_of design) bytes).right)
      (cycles_of (read_front (form_of design) bytes).right) trace
  pub accepted : new ≡ old ++ lines_of design shown trace

-- what a simulation accepted is a front of the whole text for these bytes
abbrev pub StopsAt : (bytes old new : List ℕ) → Simulation → Type 0
StopsAt bytes old new s = WritesFrontAt (flat_of s) (Some s.level) (order_in s.runner) bytes old new

-- ---- taking

-- these bytes were taken, the next ones where the source tells them
pub record Takes (tells : Bool) (given_old given_new left_old left_new taken : List ℕ) :
    Type 0 where
  pub given : given_new ≡ given_old ++ taken
  pub next : IsTrue tells → left_old ≡ taken ++ left_new

-- These bytes were taken, so many may follow, and the lines of all cycles up to the limit were
-- written; no line was wrong.
pub record IsUnderWay (bytes : List ℕ) (left : ℕ) (before accepted : List ℕ) (s : Simulation) :
    Type 0 where
  pub made : IsSimulating s
  pub going : IsFalse s.reader.finished
  pub right : s.reader.fault ≡ None
  pub count : left + length bytes ≡ largest_stimulus + 1
  pub come : HasCome (take largest_stimulus bytes) before accepted s

-- What reading a piece comes to, behind these bytes, whatever follows: more may be read, or the
-- ending, or a fault. An empty piece is the end.
abbrev pub PieceReads : (bytes piece : List ℕ) → (left : ℕ) → (before accepted : List ℕ) →
    Result (Option Ending) SimFault → (old new : Simulation) → Type 0
PieceReads bytes piece left before accepted (Ok None) old new =
    (0 < length piece) × IsUnderWay (bytes ++ piece) left before accepted new
PieceReads bytes piece left before accepted (Ok (Some ends)) old new =
    (more : List ℕ) → (piece ≡ [] → more ≡ [])
    → HasReached (bytes ++ (piece ++ more)) ends before accepted new
PieceReads bytes piece left before accepted (Err fault) old new =
    (more : List ℕ) → (piece ≡ [] → more ≡ [])
    → StopsAt (bytes ++ (piece ++ more)) before accepted old

-- the whole stimulus was taken, or all that counts of it, and was simulated to this ending
pub record EndsWith (tells : Bool) (given_old given_new left_old left_new : List ℕ)
    (ends : Ending) (before accepted : List ℕ) (s : Simulation) : Type 0 where
  pub taken : List ℕ
  pub takes : Takes tells given_old given_new left_old left_new taken
  pub few : length taken ≤ largest_stimulus + 1
  pub reached : HasReached taken ends before accepted s
  pub told : IsTrue tells → HasReached left_old ends before accepted s

-- a fault came, and a front of the text was written
pub record StopsWith (tells : Bool) (given_old given_new left_old left_new before accepted : List ℕ)
    (s : Simulation) : Type 0 where
  pub taken : List ℕ
  pub takes : Takes tells given_old given_new left_old left_new taken
  pub few : length taken ≤ largest_stimulus + 1
  pub front : StopsAt taken before accepted s
  pub told : IsTrue tells → StopsAt left_old before accepted s

-- ---- a whole run

-- the whole text for these bytes, which end so, was accepted
abbrev pub WritesWhole : FlatDesign → (shown : Option Point) → (order : Option ℕ) →
    (bytes old new : List ℕ) → Ending → Type 0
WritesWhole design shown order bytes old new ends =
    (printed : List ℕ) × IsSimulatedAt design (Some shown) order bytes ends printed
    × (new ≡ old ++ printed)

-- With an ending the whole text for these bytes was accepted, with a fault a front of it.
abbrev pub WritesBy : FlatDesign → (shown : Option Point) → (order : Option ℕ) →
    (bytes old new : List ℕ) → Result Ending SimFault → Type 0
WritesBy design shown order bytes old new (Ok ends) =
    WritesWhole design shown order bytes old new ends
WritesBy design shown order bytes old new (Err fault) =
    WritesFrontAt design (Some shown) order bytes old new

-- What simulating a stimulus from its first byte comes to: what was written is right for the bytes
-- that were taken, and for all of them where the source tells them.
pub record RunsTo (design : FlatDesign) (shown : Option Point) (order : Option ℕ) (tells : Bool)
    (given_old given_new left before accepted : List ℕ) (result : Result Ending SimFault) :
    Type 0 where
  pub taken : List ℕ
  pub given : given_new ≡ given_old ++ taken
  pub few : length taken ≤ largest_stimulus + 1
  pub writes : WritesBy design shown order taken before accepted result
  pub told : IsTrue tells → WritesBy design shown order left before accepted result
  pub prompt : IsErrOf result faults.Read → WritesAllAt design shown taken before accepted
