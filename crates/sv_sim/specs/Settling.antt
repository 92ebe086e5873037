-- Private: how the code goes. Words for how settling and the clock edge go, process by process.
-- What settled and next mean is said in sv_system/specs/System.antt.
use Rattle.std.specs.Prelude.{◌≡◌, ℕ, ◌<◌, IsTrue, IsFalse, List, length, take, filter}
use Rattle.std.specs.Prelude.{slice_index, Contains}
use Rattle.sv_system.specs.System.{Environment}
use Rattle.sv_flat.specs.Design.{ProcessForm, FlatDesign}
use Rattle.sv_flat.specs.Assigned.{assigns}
use Rattle.sv_flat.specs.Clocks.{processes_of}
use Rattle.sv_flat.specs.FlatSystem.{combinational_processes, run_of}
use Rattle.sv_flat.specs.Processes.{is_clocked}
use Rattle.sv_flat.specs.Reads.{is_combinational, reads_for}
use Rattle.sv_sim.specs.Simulations.{process_at}

-- no run of a combinational process that assigns the signal changes it
abbrev pub IsStable : FlatDesign → Environment ℕ → ℕ → Type 0
IsStable design environment s = (p : ProcessForm) → Contains (combinational_processes design) p
    → IsTrue (assigns p.body s)
    → run_of design p environment s ≡ environment s

-- The list has the combinational signals and no others, each behind the combinational signals that
-- are read for it.
pub record IsPlan (design : FlatDesign) (plan : List ℕ) : Type 0 where
  pub all : (s : ℕ) → IsTrue (is_combinational design s) → Contains plan s
  pub only : (s : ℕ) → Contains plan s → IsTrue (is_combinational design s)
  pub behind : (i : ℕ) → i < length plan → (r : ℕ) → IsTrue (is_combinational design r)
      → Contains (reads_for design (slice_index plan i)) r
      → Contains (take i plan) r

-- the first so many signals of the plan are stable
abbrev pub FrontIsStable : FlatDesign → (plan : List ℕ) → Environment ℕ → ℕ → Type 0
FrontIsStable design plan environment i =
    (s : ℕ) → Contains (take i plan) s → IsStable design environment s

-- what the process at the place assigns is stable
abbrev pub OwnIsStable : FlatDesign → Environment ℕ → (place : ℕ) → Type 0
OwnIsStable design environment place =
    (s : ℕ) → IsTrue (assigns (process_at design place).body s) → IsStable design environment s

-- the environments agree on inputs, registers and clocks
abbrev pub SameOthers : FlatDesign → Environment ℕ → Environment ℕ → Type 0
SameOthers design first second =
    (s : ℕ) → IsFalse (is_combinational design s) → first s ≡ second s

-- the clocked ones among the first so many processes
abbrev pub clocked_before : FlatDesign → ℕ → List ProcessForm
clocked_before design place =
    filter (λ (p : ProcessForm). is_clocked p.kind) (take place (processes_of design))

-- the process at the place is a combinational one that assigns the signal
pub record IsDriver (design : FlatDesign) (s place : ℕ) : Type 0 where
  pub among : place < length (processes_of design)
  pub process : Contains (combinational_processes design) (process_at design place)
  pub assigned : IsTrue (assigns (process_at design place).body s)
