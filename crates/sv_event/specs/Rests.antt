-- Lists of numbers of combinational processes, run one after the other, and where they come to
-- rest. Their runs are those of sv_system/specs/Schedules.antt.
use Rattle.std.specs.Prelude.{ℕ, ◌<◌, ◌≤◌, IsTrue, List, length, flat_map, All, Contains}
use Rattle.sv_system.specs.System.{Environment, Fits}
use Rattle.sv_system.specs.Schedules.{IsTheSettled, combinational}
use Rattle.sv_flat.specs.Design.{FlatDesign}
use Rattle.sv_flat.specs.FlatSystem.{flat_system}
use Rattle.sv_flat.specs.Schedules.{process_count, after_schedule, is_quiet}

-- each number is that of a combinational process
abbrev pub AreNumbers : FlatDesign → List ℕ → Type 0
AreNumbers design schedule = All (λ k. k < process_count design) schedule

-- a list that has the number of every combinational process, and no other number
pub record IsNumberedRound (design : FlatDesign) (round : List ℕ) : Type 0 where
  pub numbers : AreNumbers design round
  pub whole : (k : ℕ) → k < process_count design → Contains round k

-- from whatever fitting values, a list of runs after which no run would change a value has come to
-- the one settled environment of the registers and inputs that it began with
abbrev pub QuietIsSettled : FlatDesign → Type 0
QuietIsSettled design = (start : Environment ℕ) (schedule : List ℕ)
    → Fits (flat_system design) start → AreNumbers design schedule
    → IsTrue (is_quiet design (after_schedule design schedule start))
    → IsTheSettled (flat_system design) start start (after_schedule design schedule start)

-- so has a list that is made of as many rounds as there are combinational signals, or of more
abbrev pub NumberedRoundsSettle : FlatDesign → Type 0
NumberedRoundsSettle design = (start : Environment ℕ) (rounds : List (List ℕ))
    → Fits (flat_system design) start → All (IsNumberedRound design) rounds
    → length (combinational (flat_system design)) ≤ length rounds
    → IsTheSettled (flat_system design) start start
    (after_schedule design (flat_map (λ round. round) rounds) start)
