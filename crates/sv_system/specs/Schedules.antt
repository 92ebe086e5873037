-- Every order of the combinational processes: their runs follow each other on one environment, each
-- whole before the next begins (IEEE 1364-2005, clause 11: events at one time come in any order;
-- taking whole runs as events is this project's profile).
use Rattle.std.specs.Prelude.{◌≡◌, ◌<◌, ◌≤◌, ℕ, not, ◌||◌, IsTrue, List, [], ◌∷◌, map, filter}
use Rattle.std.specs.Prelude.{flat_map, length, get_or, All, Contains}
use Rattle.sv_system.specs.System.{System, Environment, Run, Fits, IsStill, Settled, SameSignals}
use Rattle.sv_system.specs.Facts.{IsCombinational}

-- the environment after some runs, one after the other
abbrev pub after_runs : {Signal : Type 0} → List (Run Signal) → Environment Signal →
    Environment Signal
after_runs [] e = e
after_runs (run ∷ later) e = after_runs later (run e)

-- runs of combinational processes, in any order and number
abbrev pub IsSchedule : {Signal Point : Type 0} → System Signal Point → List (Run Signal) → Type 0
IsSchedule system runs = All (Contains system.processes) runs

-- a schedule that has a run of every combinational process
pub record IsRound {Signal Point : Type 0} (system : System Signal Point)
    (runs : List (Run Signal)) : Type 0 where
  pub schedule : IsSchedule system runs
  pub whole : All (Contains runs) system.processes

-- runs of the processes that stand at these places of the system's list
abbrev pub runs_at : {Signal Point : Type 0} → System Signal Point → List ℕ → List (Run Signal)
runs_at system places = map (λ place. get_or system.processes place (λ e. e)) places

-- the signals that are neither inputs nor registers, in order
abbrev pub combinational : {Signal Point : Type 0} → System Signal Point → List Signal
combinational system = filter (λ s. not (system.is_input s || system.is_register s)) system.signals

-- the one settled environment of the state's registers and the inputs
pub record IsTheSettled {Signal Point : Type 0} (system : System Signal Point)
    (state inputs environment : Environment Signal) : Type 0 where
  pub settled : Settled system state inputs environment
  pub alone : (other : Environment Signal) → Settled system state inputs other →
      SameSignals system environment other

-- a schedule that comes to rest, from whatever fitting environment, has come to the one settled
-- environment of the registers and inputs that it began with
abbrev pub RestIsSettled : {Signal Point : Type 0} → System Signal Point → Type 0
RestIsSettled {Signal} system = (start : Environment Signal) (schedule : List (Run Signal))
    → Fits system start → IsSchedule system schedule → IsStill system (after_runs schedule start)
    → IsTheSettled system start start (after_runs schedule start)

-- so does a schedule made of as many rounds as there are combinational signals, or of more
abbrev pub RoundsSettle : {Signal Point : Type 0} → System Signal Point → Type 0
RoundsSettle {Signal} system = (start : Environment Signal) (rounds : List (List (Run Signal)))
    → Fits system start → All (IsRound system) rounds
    → length (combinational system) ≤ length rounds
    → IsTheSettled system start start (after_runs (flat_map (λ round. round) rounds) start)

-- a combinational process: the signals that it assigns, and a run of it
pub record Block (Signal : Type 0) : Type 0 where
  pub targets : List Signal
  pub run : Run Signal

-- What each process changes, and from what.
pub record Scheduled {Signal Point : Type 0} (system : System Signal Point) : Type 0 where
  -- the processes with their targets
  pub blocks : List (Block Signal)
  pub are_processes : system.processes ≡ map (λ (b : Block Signal). b.run) blocks
  -- numbers under which each value is made from lower signals
  pub depth : Signal → ℕ
  -- targets are combinational: so a schedule keeps inputs and registers
  pub targets_combinational : (b : Block Signal) → Contains blocks b → (s : Signal) →
      Contains b.targets s → IsCombinational system s
  -- every combinational signal is a target of some process: so a round gives it a value
  pub assigned : (s : Signal) → IsCombinational system s →
      (b : Block Signal) × Contains blocks b × Contains b.targets s
  -- a run changes none but its targets: so what is settled stays so
  pub leaves : (b : Block Signal) → Contains blocks b → (e : Environment Signal) (s : Signal) →
      (Contains b.targets s → ⊥) → b.run e s ≡ e s
  -- the value that a run leaves in a target is made from those that inputs, registers and
  -- combinational signals of lower depth had when the run began: so it is settled once they are. A
  -- block may read what it assigned before, since that is made from the same values.
  pub made_from_lower : (b : Block Signal) → Contains blocks b → (s : Signal) → Contains b.targets s
      → (e f : Environment Signal)
      → ((t : Signal) → IsTrue (system.is_input t) → e t ≡ f t)
      → ((t : Signal) → IsTrue (system.is_register t) → e t ≡ f t)
      → ((t : Signal) → IsCombinational system t → depth t < depth s → e t ≡ f t)
      → b.run e s ≡ b.run f s
